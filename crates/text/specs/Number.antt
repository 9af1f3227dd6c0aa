-- A number in bytes: "decimal numbers 0 to 65535, no leading zeros" (01, 'The order card'). What may come after it is for whoever reads on to say; a digit may not.
--   greatest_number     the greatest number that may stand there
--   IsDigit c          c is the byte of a digit
--   NoDigit b          b starts with no digit
--   Digits b v rest    b starts with the digits of the number v; rest comes after them, and starts with no digit
--   Starts b           some number starts with the bytes b
--   Stops b i          b doesn't start with the digits of a number, and i is the place of the first byte from which no number could go on; the length, if b merely stops short
--   value_of r          the value that r, an answer of `number`, gives; none where r names a bad place
--   place_of r          the place that r gives: the one after the digits, or the bad one
--   NumeralAt b at o e    from place at of b on stands the number o, and e is the place after its digits; where o is none, no number stands there, and e is the bad place
--   NumberIs b at r    r is what is read at place at of b
use Rattle.std.specs.Prelude.{ℕ, ◌+◌, ◌<◌, ◌≤◌, ◌≡◌, List, [], ◌∷◌, ◌++◌, length, take, drop, Result, Ok, Err}
use Rattle.std.proofs.Math.Option.{Option, none, some}
use Rattle.text.specs.Decimal.{digit, decimal}
use Rattle.text.specs.declared.Numeral.{Numeral}
use Rattle.text.specs.declared.BadByte.{BadByte}

abbrev pub greatest_number : ℕ
greatest_number = 65535

abbrev pub IsDigit : ℕ → Type 0
IsDigit c = (digit 0 ≤ c) × (c ≤ digit 9)

abbrev pub NoDigit : List ℕ → Type 0
NoDigit [] = Unit
NoDigit (c ∷ rest) = ¬ IsDigit c

pub record Digits (b : List ℕ) (v : ℕ) (rest : List ℕ) : Type 0 where
  pub number : v ≤ greatest_number
  pub bytes : b ≡ decimal v ++ rest
  pub ended : NoDigit rest

abbrev pub Starts : List ℕ → Type 0
Starts b = (v : ℕ) × (more : List ℕ) × (v ≤ greatest_number) × (b ++ more ≡ decimal v)

pub record Stops (b : List ℕ) (i : ℕ) : Type 0 where
  pub within : i ≤ length b
  pub before : Starts (take i b)
  pub stops : i < length b → ¬ Starts (take (i + 1) b)
  pub not : (v : ℕ) (rest : List ℕ) → ¬ Digits b v rest

abbrev pub value_of : Result Numeral BadByte → Option ℕ
value_of (Ok n) = some n.value
value_of (Err e) = none

abbrev pub place_of : Result Numeral BadByte → ℕ
place_of (Ok n) = n.end
place_of (Err e) = e.0

abbrev pub NumeralAt : List ℕ → ℕ → Option ℕ → ℕ → Type 0
NumeralAt b at (some v) e = (at < e) × (e ≤ length b) × Digits (drop at b) v (drop e b)
NumeralAt b at none e = (i : ℕ) × (e ≡ at + i) × Stops (drop at b) i

abbrev pub NumberIs : List ℕ → ℕ → Result Numeral BadByte → Type 0
NumberIs b at r = NumeralAt b at (value_of r) (place_of r)
