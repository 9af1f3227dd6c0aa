-- A row of numbers as a card has them: "decimal numbers 0 to 65535, no leading zeros, one space between, one newline at the end" (01, 'The order card').
--   ending rest         the byte that ends a number, where rest is what comes after it: a newline if nothing does, else a space
--   numbers_text ns      the bytes of the numbers ns
--   EachNumber ns       each of ns may stand there
--   IsRow b ns          b is a row of numbers, and the numbers are ns
--   Begins b v rest     b begins with the number v and the byte that ends it; rest comes after
--   values_of_thing r     the numbers that r, the next thing on a card, carries: the number and the place after the byte that ends it, or those of the refusal
--   NextIs b at r       r is what is read at place at of b: a number, if b goes on with one there; else the refusal 15
use Prim.Native.Char.{code}
use Rattle.std.specs.Prelude.{ℕ, ◌<◌, ◌≤◌, ◌≡◌, List, [], ◌∷◌, ◌++◌, length, drop, Result, Ok, Err}
use Rattle.std.proofs.Math.Option.{none, some}
use Rattle.kinds.specs.Refusal.{said, values_of}
use Rattle.kinds.specs.declared.Refusal.{Refusal}
use Rattle.kinds.specs.declared.Refusal.TheVariants.{Card}
use Rattle.text.specs.Decimal.{decimal}
use Rattle.text.specs.Number.{greatest_number}
use Rattle.text.specs.declared.Numeral.{Numeral}

abbrev pub ending : List ℕ → ℕ
ending [] = code "\n"
ending (b ∷ rest) = code " "

unfoldable pub numbers_text : List ℕ → List ℕ
numbers_text [] = []
numbers_text (x ∷ xs) = decimal x ++ (ending (numbers_text xs) ∷ numbers_text xs)

abbrev pub EachNumber : List ℕ → Type 0
EachNumber [] = Unit
EachNumber (x ∷ xs) = (x ≤ greatest_number) × EachNumber xs

pub record IsRow (b ns : List ℕ) : Type 0 where
  pub bytes : b ≡ numbers_text ns
  pub numbers : EachNumber ns

pub record Begins (b : List ℕ) (v : ℕ) (rest : List ℕ) : Type 0 where
  pub number : v ≤ greatest_number
  pub bytes : b ≡ decimal v ++ (ending rest ∷ rest)

abbrev pub values_of_thing : Result Numeral Refusal → List ℕ
values_of_thing (Ok n) = n.value ∷ n.end ∷ []
values_of_thing (Err x) = values_of x

pub record NextIs (b : List ℕ) (at : ℕ) (r : Result Numeral Refusal) : Type 0 where
  pub number : said r ≡ none → (v next : ℕ) × (values_of_thing r ≡ v ∷ next ∷ []) × (at < next) × (next ≤ length b) × Begins (drop at b) v (drop next b)
  pub refused : (x : Refusal) → said r ≡ some x → (x ≡ Card) × ((v : ℕ) (rest : List ℕ) → ¬ Begins (drop at b) v rest)
