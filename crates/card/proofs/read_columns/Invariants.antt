-- The bytes from `at` on are a row of numbers exactly if those from `place` on are, and then the numbers that were taken come first.
use Rattle.std.proofs.Common.{List, ℕ, ◌+◌, ◌*◌, ◌-◌, ◌≤◌, ◌++◌, length, drop}
use Rattle.text.specs.Numbers.{IsRow}
use Rattle.card.specs.Card.{longest}
use Rattle.card.proofs.read_columns.Given as goal

pub record Taking (b : List ℕ) (at : ℕ) (taken : List ℕ) (place : ℕ) : Type 0 where
  pub short : length b ≤ longest
  pub within : place ≤ length b
  pub passed : 2 * length taken + 4 ≤ place
  pub on : (ns : List ℕ) → IsRow (drop place b) ns → IsRow (drop at b) (taken ++ ns)
  pub back : (ms : List ℕ) → IsRow (drop at b) ms → (ns : List ℕ) × IsRow (drop place b) ns

abbrev pub invariant-loop-place : goal.invariant-loop-place
invariant-loop-place l = Taking l.card l.at l.columns.items l.place

abbrev pub decreases-loop-place : goal.decreases-loop-place
decreases-loop-place l = length l.card - l.place
