-- What the functions inside the crate promise one another.
--   most_banks                   the most banks that a number of 64 bits has a bit for
--   BankBits k r                r masks a cell's number, of 32 bits, to its bank
use Rattle.std.specs.Prelude.{ℕ, ◌^◌, ◌<◌, ◌≡◌}
use Rattle.std.specs.Int.Bits.{bit_and}
use Rattle.kinds.specs.Frame.{bank_of}

abbrev pub most_banks : ℕ
most_banks = 64

abbrev pub BankBits : ℕ → ℕ → Type 0
BankBits k r = (x : ℕ) → x < 2 ^ 32 → bit_and x r ≡ bank_of k x
