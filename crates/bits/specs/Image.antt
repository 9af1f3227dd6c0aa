-- The image of a number under columns (01: "P i is the exclusive or of the columns at the set bits of i").
--   chosen b c       c if the bit b is set, else 0
--   image C x        the exclusive or of the columns of C at the set bits of x; bit j of x goes with column j
--   AllBelow b C     each column of C is below b
--   Linear f         f of an exclusive or is the exclusive or of the two values
--   columns n f      f 2^0, f 2^1, .., f 2^(n-1): the columns of a map of n bits
use Rattle.std.specs.Prelude.{ℕ, zero, suc, ◌/◌, ◌%◌, ◌^◌, ◌<◌, ◌≡◌, List, [], ◌∷◌, length, get_or}
use Rattle.std.specs.Int.Bits.{bit_xor}
use Rattle.kinds.specs.Frame.{in_order}

abbrev pub chosen : ℕ → ℕ → ℕ
chosen zero c = zero
chosen (suc b) c = c

unfoldable pub image : List ℕ → ℕ → ℕ
image [] x = 0
image (c ∷ cs) x = bit_xor (chosen (x % 2) c) (image cs (x / 2))

abbrev pub AllBelow : ℕ → List ℕ → Type 0
AllBelow b cs = (j : ℕ) → j < length cs → get_or cs j 0 < b

abbrev pub Linear : (ℕ → ℕ) → Type 0
Linear f = (x y : ℕ) → f (bit_xor x y) ≡ bit_xor (f x) (f y)

unfoldable pub columns : ℕ → (ℕ → ℕ) → List ℕ
unfolding in_order
columns n f = in_order n (λ j. f (2 ^ j))
