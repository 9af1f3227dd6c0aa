-- What the maps of a sheet have to be for an order (01, 'When a tool says no', 6 to 9).
--   Invertible k W           the wiring of the side W sends the 2^k ports to the 2^k banks, one to one
--   ShareCell n f            "two words share a cell", where f is the map of words to cells
--   Differ n f g P           "M differs from N P", where f is M and g is N
use Rattle.std.specs.Prelude.{ℕ, ◌^◌, ◌<◌, ◌≡◌, ◌≢◌}
use Rattle.bits.specs.Image.{image}
use Rattle.span.specs.Maps.{Bijection}
use Rattle.sheet.specs.Sheet.{Side}

abbrev pub Invertible : ℕ → Side → Type 0
Invertible k W = Bijection (image W.wiring) (2 ^ k)

abbrev pub ShareCell : ℕ → (ℕ → ℕ) → Type 0
ShareCell n f = (j : ℕ) × (j < 2 ^ n) × ((i : ℕ) × (i < j) × (f i ≡ f j))

abbrev pub Differ : ℕ → (ℕ → ℕ) → (ℕ → ℕ) → (ℕ → ℕ) → Type 0
Differ n f g P = (i : ℕ) × (i < 2 ^ n) × (f i ≢ g (P i))
