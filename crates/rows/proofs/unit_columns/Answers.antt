use Rattle.std.proofs.Common.{ℕ, ◌-◌, ◌^◌, ◌≤◌, ◌≡◌, min, sym, ◌∙◌, arith}
use native.Mathlib.Nat.{div-eq_of_lt}
use lib.Pow.{pow-lt, shl-shr}
use Rattle.kinds.proofs.FrameLaws.{frame_whole}
use Rattle.bits.proofs.ImageLaws.{columns_length, columns_at}
use Rattle.bits.proofs.FillLaws.{fill_zeros, fill_more, fill_all}
use Rattle.bits.specs.Padded.{array_width}
use Rattle.rows.proofs.unit_columns.Invariants.{shifted}
use Rattle.rows.proofs.unit_columns.Goals as goal

unit_shifted : (a j : ℕ) → a ≤ j → shifted a (2 ^ j) ≡ 2 ^ (j - a)
unit_shifted a j from = rw (← frame_whole from) (shl-shr (2 ^ (j - a)) a)

pub loop-j-init : goal.loop-j-init
loop-j-init c =
    let all = min c.args.b array_width in
    let a = c.args.a in
    let count = columns_length all (shifted a) in
    fill_zeros (omega (arith, count)) (λ i h l. columns_at all (shifted a) i (omega (arith, count)) ∙ div-eq_of_lt (pow-lt h))

pub loop-j-preserved : goal.loop-j-preserved
loop-j-preserved c =
    let all = min c.args.b array_width in
    let a = c.args.a in
    let j = c.loop-j.j in
    fill_more c.loop-j.invariant (omega (arith, columns_length all (shifted a)))
    (c.two_to.ensures.fits (omega arith) ∙ sym (columns_at all (shifted a) j (omega arith) ∙ unit_shifted a j (omega arith)))

pub returns : goal.returns
returns c = fill_all c.loop-j.invariant (omega (arith, columns_length (min c.args.b array_width) (shifted c.args.a)))
