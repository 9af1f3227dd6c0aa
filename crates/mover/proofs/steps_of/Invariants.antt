-- The sum is that of the first j columns, which are those at the bits of 2^j - 1, and the steps before j stand.
use Rattle.std.proofs.Common.{ℕ, ◌+◌, ◌-◌, ◌^◌, ◌<◌, ◌≡◌, List, length, get_or}
use Rattle.order.specs.Order.{place}
use Rattle.mover.proofs.steps_of.Given as goal

pub record Stepped (C s : List ℕ) (sum j : ℕ) : Type 0 where
  pub fits : length C < length s
  pub total : sum ≡ place C (2 ^ j - 1)
  pub each : (l : ℕ) → l < j → get_or s l 0 ≡ place C (2 ^ (l + 1) - 1)

abbrev pub invariant-loop-j : goal.invariant-loop-j
invariant-loop-j l = Stepped l.columns l.steps l.sum l.j
