-- Maps of numbers below a bound.
--   Into f a b        f sends each number below a to a number below b
--   Injective f a     f sends no two numbers below a to one
--   Onto f a b        each number below b is f of some number below a
--   Bijection f n     f is a bijection of the numbers below n
use Rattle.std.specs.Prelude.{ℕ, ◌<◌, ◌≡◌}

abbrev pub Into : (ℕ → ℕ) → ℕ → ℕ → Type 0
Into f a b = (i : ℕ) → i < a → f i < b

abbrev pub Injective : (ℕ → ℕ) → ℕ → Type 0
Injective f a = (i j : ℕ) → i < a → j < a → f i ≡ f j → i ≡ j

abbrev pub Onto : (ℕ → ℕ) → ℕ → ℕ → Type 0
Onto f a b = (y : ℕ) → y < b → (x : ℕ) × (x < a) × (f x ≡ y)

pub record Bijection (f : ℕ → ℕ) (n : ℕ) : Type 0 where
  pub into : Into f n n
  pub injective : Injective f n
  pub onto : Onto f n n
