-- Bytes that start with a number, whatever comes after its digits, and bytes that start with none, with the first bad place: a leading zero, 65536, no digit, no byte.
-- Bytes that are a row of numbers, with the numbers, and bytes that are none: a leading zero, 65536, a sign, a letter; two spaces, a tab, a space before the
-- first number or after the last; no newline, a space for it, a second one, one between two numbers, one alone. No bytes at all are the row of no numbers.
use Prim.Native.Nat.{ℕ}
use Prim.Native.String.{String}
use mathlib.Core.Path.{◌≡◌, refl}
use mathlib.Core.List.{List, [], ◌∷◌, map}
use mathlib.Core.Logic.{◌⊎◌, inl, inr}
use mathlib.Core.Option.{Option, none, some}
use Rattle.text.specs.Decimal.{codes, decimal_in}
use Rattle.text.specs.Numbers.{numbers_text, IsRow}
use Rattle.text.proofs.ReadLaws.{Outcome, outcome}
use Rattle.text.proofs.RowLaws.{row?}

abbrev told : {b : List ℕ} → Outcome b → (ℕ × List ℕ) ⊎ ℕ
told (inl (v, rest, d)) = inl (v, rest)
told (inr (i, stops)) = inr i

starts : map (λ s. told (outcome (codes s))) ("5,2)" ∷ "65535)" ∷ "0 7" ∷ "12" ∷ "007" ∷ "65536" ∷ "655350" ∷ "x" ∷ ",5" ∷ "" ∷ [])
    ≡ inl (5, codes ",2)") ∷ inl (65535, codes ")") ∷ inl (0, codes " 7") ∷ inl (12, []) ∷ inr 1 ∷ inr 4 ∷ inr 5 ∷ inr 0 ∷ inr 0 ∷ inr 0 ∷ []
unfolding codes decimal_in outcome
starts = refl

abbrev numbers : {b : List ℕ} → Dec ((ns : List ℕ) × IsRow b ns) → Option (List ℕ)
numbers (yes (ns, r)) = some ns
numbers (no n) = none

abbrev read : String → Option (List ℕ)
read s = numbers (row? (codes s))

taken : map read ("3 1 4 2 1\n" ∷ "65535 0 10 9\n" ∷ "0\n" ∷ "" ∷ [])
    ≡ some (3 ∷ 1 ∷ 4 ∷ 2 ∷ 1 ∷ []) ∷ some (65535 ∷ 0 ∷ 10 ∷ 9 ∷ []) ∷ some (0 ∷ []) ∷ some [] ∷ []
unfolding codes row?
taken = refl

printed : map numbers_text ((3 ∷ 1 ∷ 4 ∷ 2 ∷ 1 ∷ []) ∷ (65535 ∷ 0 ∷ 10 ∷ 9 ∷ []) ∷ []) ≡ map codes ("3 1 4 2 1\n" ∷ "65535 0 10 9\n" ∷ [])
unfolding codes decimal_in numbers_text
printed = refl

abbrev bad : List String
bad =
    "3 01\n" ∷ "00\n" ∷ "65536\n" ∷ "100000\n" ∷ "-1\n" ∷ "1a\n" ∷ "3  1\n" ∷ "3\t1\n" ∷ " 3 1\n" ∷ "3 1 \n" ∷ "3 1" ∷ "3 1 " ∷ "3 1\n\n" ∷ "3\n1\n" ∷ "\n" ∷ []

refused : map read bad ≡ map (λ s. none) bad
unfolding codes row?
refused = refl
