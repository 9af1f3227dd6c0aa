-- Single bits, and odd or even.
--   bit j x      bit j of x, 0 or 1
--   parity x     1 if x has an odd number of ones, else 0
--   dot a b      1 if a AND b has an odd number of ones, else 0
use Rattle.std.specs.Prelude.{ℕ, ◌/◌, ◌%◌, ◌^◌}
use Rattle.std.specs.Int.Bits.{bit_and}
use Rattle.std.specs.Int.Count.{ones}

abbrev pub bit : ℕ → ℕ → ℕ
bit j x = x / 2 ^ j % 2

unfoldable pub parity : ℕ → ℕ
parity x = ones x % 2

unfoldable pub dot : ℕ → ℕ → ℕ
dot a b = parity (bit_and a b)
