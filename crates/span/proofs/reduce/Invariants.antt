-- What was taken away is made of kept numbers.
-- An entry that makes what is left smaller is there; where none does, one with as many leading zeros would have.
use Rattle.std.proofs.Common.{ℕ, ◌+◌, ◌^◌, ◌<◌, List, bit_xor}
use Rattle.span.specs.Held.{width, MadeOf, Echelon}
use Rattle.span.proofs.reduce.Given as goal

pub record Reducing (es : List ℕ) (e left : ℕ) : Type 0 where
  pub fits : left < 2 ^ (width + width)
  pub made : (vs : List ℕ) → Echelon es vs → MadeOf vs (bit_xor e left)

abbrev pub invariant-loop-left : goal.invariant-loop-left
invariant-loop-left l = Reducing l.entries l.entry l.left

abbrev pub decreases-loop-left : goal.decreases-loop-left
decreases-loop-left l = l.left
