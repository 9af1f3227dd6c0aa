-- What the functions inside the crate promise one another.
--   Steps C s           s[j] is the sum of columns 0 to j: what the place changes by, from a number to the next, where the next ends in j zeros
--   TwoFrames n C f g   an order, and two frames
use Rattle.std.specs.Prelude.{ℕ, ◌+◌, ◌-◌, ◌^◌, ◌<◌, ◌≤◌, ◌≡◌, List, length, get_or}
use Rattle.span.specs.Tools.{most_scanned}
use Rattle.order.specs.Order.{place, Order}

abbrev pub Steps : List ℕ → List ℕ → Type 0
Steps C s = (j : ℕ) → j < length C → get_or s j 0 ≡ place C (2 ^ (j + 1) - 1)

pub record TwoFrames (n : ℕ) (C f g : List ℕ) : Type 0 where
  pub few : length C ≤ most_scanned
  pub order : Order n C
  pub came : length f ≡ 2 ^ n
  pub leaves : length g ≡ 2 ^ n
