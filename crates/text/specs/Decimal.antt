-- Bytes, and numbers in decimal (01, 'The order card').
--   codes s         the bytes of the text s
--   digit d         the byte of the digit d
--   decimal_in m x   x in decimal, if m places are enough
--   decimal x       x in decimal, no leading zeros
use Prim.Native.Char.{code}
use Rattle.std.specs.Prelude.{ℕ, zero, suc, ◌+◌, ◌/◌, ◌%◌, true, false, List, [], ◌∷◌, ◌++◌, ltb}
use Prim.Native.String.{String, [] as []ᵗ, ◌∷◌ as ◌∷ᵗ◌}

unfoldable pub codes : String → List ℕ
codes []ᵗ = []
codes (c ∷ᵗ s) = code c ∷ codes s

abbrev pub digit : ℕ → ℕ
digit d = code "0" + d

unfoldable pub decimal_in : ℕ → ℕ → List ℕ
decimal_in zero x = []
decimal_in (suc m) x = elim (ltb x 10) [
  | true ↦ digit x ∷ []
  | false ↦ decimal_in m (x / 10) ++ (digit (x % 10) ∷ [])
]

abbrev pub decimal : ℕ → List ℕ
decimal x = decimal_in (suc x) x
