-- What fits a machine word.
--   TwoTo k r      r is 2^k, or 0 where that is no number of 32 bits
use Rattle.std.specs.Prelude.{ℕ, ◌^◌, ◌<◌, ◌≤◌, ◌≡◌}

pub record TwoTo (k r : ℕ) : Type 0 where
  pub fits : k < 32 → r ≡ 2 ^ k
  pub beyond : 32 ≤ k → r ≡ 0
