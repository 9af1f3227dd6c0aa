-- From `at` up to `place` stand the digits that were read, which make `value`.
use Rattle.std.proofs.Common.{List, ℕ, ◌≡◌, ◌-◌, ◌≤◌, ◌++◌, length, drop}
use Rattle.text.proofs.ReadLaws.{digits, Sofar}
use Rattle.text.proofs.number.Given as goal

pub record Reads (b : List ℕ) (at value place : ℕ) : Type 0 where
  pub begun : at ≤ place
  pub within : place - at ≤ length b - at
  pub sofar : Sofar (place - at) value
  pub bytes : drop at b ≡ digits (place - at) value ++ drop place b

abbrev pub invariant-loop-place : goal.invariant-loop-place
invariant-loop-place l = Reads l.bytes l.at l.value l.place

abbrev pub decreases-loop-place : goal.decreases-loop-place
decreases-loop-place l = length l.bytes - l.place
