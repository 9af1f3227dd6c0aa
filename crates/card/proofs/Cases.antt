-- Bytes that are a card, with its numbers, and bytes that are none: a leading zero, one number alone, 129 bytes.
use Prim.Native.Nat.{ℕ}
use mathlib.Core.Path.{◌≡◌, refl}
use mathlib.Core.List.{List, [], ◌∷◌, map}
use native.Mathlib.Decide.{dec_le}
use lib.ListN.{replicate}
use Rattle.text.specs.Decimal.{codes, decimal_in}
use Rattle.text.specs.Numbers.{numbers_text}
use Rattle.text.proofs.RowLaws.{row?}
use Rattle.card.specs.Card.{numbers_on}
use Rattle.card.proofs.CardLaws.{card?}

abbrev numbers : List ℕ → List ℕ
numbers b = numbers_on (card? b)

read : map numbers (codes "3 1 4 2 1\n" ∷ codes "01 1 1\n" ∷ codes "2\n" ∷ numbers_text (replicate 64 0) ∷ numbers_text (10 ∷ replicate 63 0) ∷ [])
    ≡ (3 ∷ 1 ∷ 4 ∷ 2 ∷ 1 ∷ []) ∷ [] ∷ [] ∷ replicate 64 0 ∷ [] ∷ []
unfolding codes decimal_in numbers_text row? card? dec_le
read = refl
