-- What a search among the numbers below a bound finds.
--   found d           where d decides whether some number below a bound has P, the number that it shows; 0 where there is none. A search from 0 up (`some_below`) shows the least (law `found_least`)
--   with_if d ps n     the numbers ps, and n after them if what d decides holds
--   those P? n        the numbers below n that have P, ascending
use Rattle.std.specs.Prelude.{ℕ, zero, suc, ◌<◌, List, [], ◌∷◌, ◌++◌}

abbrev pub found : {P : ℕ → Type 0} {n : ℕ} → Dec ((i : ℕ) × (i < n) × P i) → ℕ
found (yes (i, h, p)) = i
found (no n) = 0

abbrev pub with_if : {A : Type 0} → Dec A → List ℕ → ℕ → List ℕ
with_if (yes a) ps n = ps ++ (n ∷ [])
with_if (no not) ps n = ps

unfoldable pub those : {P : ℕ → Type 0} → ((i : ℕ) → Dec (P i)) → ℕ → List ℕ
those P? zero = []
those P? (suc n) = with_if (P? n) (those P? n) n
