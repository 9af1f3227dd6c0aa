-- The digits that were counted, and those of the rest, make the number's.
use Rattle.std.proofs.Common.{ℕ, ◌≡◌, ◌+◌, ◌≤◌, length}
use Rattle.text.specs.Decimal.{decimal}
use Rattle.lines.proofs.width.Given as goal

pub record Counts (number digits rest : ℕ) : Type 0 where
  pub few : length (decimal number) ≤ 10
  pub same : digits + length (decimal rest) ≡ length (decimal number) + 1

abbrev pub invariant-loop-rest : goal.invariant-loop-rest
invariant-loop-rest l = Counts l.number l.digits l.rest

abbrev pub decreases-loop-rest : goal.decreases-loop-rest
decreases-loop-rest l = l.rest
