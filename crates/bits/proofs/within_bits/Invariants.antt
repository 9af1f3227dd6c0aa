-- All, of 16 bits, has at most m bits exactly when each number passed has.
use Rattle.std.proofs.Common.{ℕ, ◌^◌, ◌<◌, ◌↔◌, List, get_or}
use Rattle.bits.proofs.within_bits.Given as goal

pub record Together (l : List ℕ) (all i : ℕ) : Type 0 where
  pub narrow : all < 2 ^ 16
  pub same : (m : ℕ) → all < 2 ^ m ↔ ((j : ℕ) → j < i → get_or l j 0 < 2 ^ m)

abbrev pub invariant-loop-number : goal.invariant-loop-number
invariant-loop-number l = Together l.numbers l.all l.number-index
