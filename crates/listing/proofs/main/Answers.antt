-- What was printed lies within the text.
use Rattle.std.proofs.Common.{ℕ, ◌≤◌, List, length, drop, length-append, ap, sym, arith}
use lib.Seq.{length-take-le}
use Rattle.kinds.specs.Edition.{edition1}
use Rattle.card.proofs.CardLaws.{card?}
use Rattle.list.specs.Tool.{printed, Prints}
use Rattle.listing.proofs.main.Goals as goal

within : {b t t' : List ℕ} {r : ℕ} → Prints edition1 b t t' r → r ≤ length t'
within {b} {t} prints =
    let d = card? b in
    let p = printed edition1 d in
    omega (arith, (prints d).length_of, ap length (prints d).text, length-append p (drop (length p) t))

pub slice_bounds-text-end : goal.slice_bounds-text-end
slice_bounds-text-end c = within c.print-end.ensures

pub slice_bounds-write_all-end : goal.slice_bounds-write_all-end
slice_bounds-write_all-end c = sym (length-take-le c.print-end.result c.print-end.new.text (within c.print-end.ensures))
