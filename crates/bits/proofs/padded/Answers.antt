use Rattle.std.proofs.Common.{ℕ, List, ◌≡◌, ◌∙◌, sym, length, get_or, take, length-take, arith, rules}
use Rattle.std.proofs.lemmas.List.{get_or-take}
use Rattle.bits.specs.Padded.{padded_to}
use Rattle.bits.proofs.PaddedLaws.{padded_length, padded_at}
use Rattle.bits.proofs.FillLaws.{fill_none, fill_more, fill_whole}
use Rattle.bits.proofs.padded.Goals as goal

-- the whole of it: as many places as the array has
size : (m : ℕ) (l : List ℕ) → length (padded_to m (take m l)) ≡ m
size m l = padded_length m (take m l) (omega (arith, length-take m l))

pub loop-j-init : goal.loop-j-init
loop-j-init g c = fill_none (omega (arith, size g.row.N c.args.numbers.now))

pub loop-j-preserved : goal.loop-j-preserved
loop-j-preserved g c =
    let l = c.args.numbers.now in
    let m = g.row.N in
    let j = c.loop-j.j in
    let read : c.unwrap_or.result ≡ get_or l j 0 = search rules in
    fill_more c.loop-j.invariant (omega (arith, size m l)) (read ∙ sym (padded_at m (take m l) j ∙ get_or-take m l j 0 c.loop-j-test.true))

pub returns : goal.returns
returns g c = fill_whole c.loop-j.invariant (size g.row.N c.args.numbers.now) (omega (arith, size g.row.N c.args.numbers.now))
