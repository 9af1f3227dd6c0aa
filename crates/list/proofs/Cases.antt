-- What is printed for cards, computed on the written meaning: 01's listing; Gray code at n 3, where the words would differ if the order were taken for its inverse; one tick without stages. Cards that
-- are refused: a leading zero and one number alone (15), sizes (1) before columns too few or too large, the count of columns (2), a column too large (3), dependent columns (4): 02's line, a sum of two, several at once, a column of zeros.
use Prim.Native.Nat.{ℕ}
use Prim.Native.String.{String}
use mathlib.Core.Path.{◌≡◌, refl}
use mathlib.Core.List.{List, [], ◌∷◌, map, flatten}
use native.Mathlib.Decide.{ℕ_discrete, dec_le}
use lib.Count.{ones}
use Rattle.kinds.specs.Edition.{edition1}
use Rattle.kinds.specs.Decisions.{sized?, right_lengths?}
use Rattle.kinds.specs.Frame.{in_order}
use Rattle.kinds.specs.First.{first_of}
use Rattle.kinds.specs.Decided.{some_below}
use Rattle.kinds.specs.Search.{those}
use Rattle.bits.specs.Image.{image, columns}
use Rattle.bits.specs.Parity.{parity, dot}
use Rattle.span.specs.Decisions.{sum_of?, independent?}
use Rattle.span.specs.Scan.{kept_at, others, mask, masks}
use Rattle.span.specs.First.{first_sum}
use Rattle.span.specs.Rows.{dots, rows}
use Rattle.text.specs.Decimal.{codes, decimal_in}
use Rattle.text.proofs.RowLaws.{row?}
use Rattle.switches.specs.Stages.{bank_after}
use Rattle.switches.specs.Written.{kept_stages_of}
use Rattle.construction.specs.Planned.{others_of_p1, ports_to_zero, kept_of_p3, read_stages_of}
use Rattle.lay.specs.Staged.{pairs}
use Rattle.card.proofs.CardLaws.{card?}
use Rattle.lines.specs.Line.{spaced}
use Rattle.list.specs.Tool.{printed}

planned : Unit {0}
unfolding image columns ℕ_discrete sum_of? some_below those kept_at others mask masks in_order dots rows dot parity ones bank_after kept_stages_of others_of_p1 ports_to_zero kept_of_p3 pairs read_stages_of
planned = tt

computed : Unit {0}
unfolding planned codes decimal_in row? card? dec_le first_of sized? right_lengths? independent? first_sum spaced flatten
computed = tt

abbrev prints : String → List ℕ
prints s = printed edition1 (card? (codes s))

listings : map prints ("3 1 4 2 1\n" ∷ "3 1 1 3 6\n" ∷ "2 2 2 1\n" ∷ [])
    ≡ map codes (
    "order 3 1\nwrite 1 1 2\nread 1 1 2\n0: 0 4\n1: 2 6\n2: 1 5\n3: 3 7\n"
    ∷ "order 3 1\nwrite 1 1 1\nread 0\n0: 0 1\n1: 3 2\n2: 7 6\n3: 4 5\n"
    ∷ "order 2 2\nwrite 0\nread 0\n0: 0 2 1 3\n"
    ∷ [])
unfolding computed
listings = refl

refusals : map prints ("01 1 1\n" ∷ "2\n" ∷ "11 6\n" ∷ "2 3 4 4\n" ∷ "3 1\n" ∷ "2 1 4 4\n" ∷ [])
    ≡ map codes ("refused 15\n" ∷ "refused 15\n" ∷ "refused 1\n" ∷ "refused 1\n" ∷ "refused 2\n" ∷ "refused 3\n" ∷ [])
unfolding computed
refusals = refl

dependent : map prints ("3 1 1 2 1\n" ∷ "3 1 1 2 3\n" ∷ "3 1 5 5 5\n" ∷ "3 1 0 1 1\n" ∷ [])
    ≡ map codes ("refused 4 column 2 from 1\n" ∷ "refused 4 column 2 from 3\n" ∷ "refused 4 column 1 from 1\n" ∷ "refused 4 column 0 from 0\n" ∷ [])
unfolding computed
dependent = refl
