-- What the stages of a side do (01, 'What a sheet holds').
--   switched s c b                  the bank b after the stage s, at tick c: it "xors its direction into the bank if control AND c has an odd number of ones"
--   bank_after ss c b              the bank b after each of the stages ss, in order
use Rattle.std.specs.Prelude.{ℕ, List, [], ◌∷◌}
use Rattle.std.specs.Int.Bits.{bit_xor}
use Rattle.bits.specs.Image.{chosen}
use Rattle.bits.specs.Parity.{dot}
use Rattle.sheet.specs.declared.Stage.{Stage}

abbrev pub switched : Stage → ℕ → ℕ → ℕ
switched s c b = bit_xor b (chosen (dot s.control c) s.direction)

unfoldable pub bank_after : List Stage → ℕ → ℕ → ℕ
bank_after [] c b = b
bank_after (s ∷ ss) c b = bank_after ss c (switched s c b)
