-- The meanings on frames that 01 tried by hand: where the words 0, 1, 2, .. leave.
use Prim.Native.Nat.{ℕ}
use mathlib.Core.Path.{◌≡◌, refl}
use mathlib.Core.List.{List, [], ◌∷◌, map}
use lib.Count.{ones}
use Rattle.bits.specs.Image.{image}
use Rattle.bits.specs.Parity.{parity}

words : List ℕ
words = 0 ∷ 1 ∷ 2 ∷ 3 ∷ 4 ∷ 5 ∷ 6 ∷ 7 ∷ []

-- bit reversal, Gray code, and the one column 1, with no bits of the word left for it
places : map (λ cs. map (image cs) words) ((4 ∷ 2 ∷ 1 ∷ []) ∷ (1 ∷ 3 ∷ 6 ∷ []) ∷ (1 ∷ []) ∷ [])
    ≡ (0 ∷ 4 ∷ 2 ∷ 6 ∷ 1 ∷ 5 ∷ 3 ∷ 7 ∷ []) ∷ (0 ∷ 1 ∷ 3 ∷ 2 ∷ 6 ∷ 7 ∷ 5 ∷ 4 ∷ []) ∷ (0 ∷ 1 ∷ 0 ∷ 1 ∷ 0 ∷ 1 ∷ 0 ∷ 1 ∷ []) ∷ []
unfolding image words
places = refl

parities : map parity words ≡ 0 ∷ 1 ∷ 1 ∷ 0 ∷ 1 ∷ 0 ∷ 0 ∷ 1 ∷ []
unfolding parity ones words
parities = refl
