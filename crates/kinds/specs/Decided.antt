-- Decisions made of decisions. Each carries its proof, so none has to be read.
--   both d e        whether two statements hold, where d decides the one and e the other
--   either d e      whether one of them holds
--   through w d     whether a statement holds that holds exactly when the one that d decides does
--   opposite d      whether the one that d decides fails
--   implied d e     whether the one that e decides holds, if the one that d decides does
--   some_below P? n  whether some number below n has P: a search from 0 up, which shows the least one that has
--   further d e     such a search one number further, where d is what it found below n, and e decides whether n itself has P
--   each_below P? n  whether every number below n has P
use Rattle.std.specs.Prelude.{ℕ, zero, suc, ◌<◌, ◌↔◌, ◌⊎◌}
use Rattle.std.proofs.Common.{subst, sym, inl, inr, arith}
use Rattle.std.proofs.Math.Decide.{ℕ_discrete}

abbrev pub both : {A B : Type 0} → Dec A → Dec B → Dec (A × B)
both (yes a) (yes b) = yes (a, b)
both (yes a) (no n) = no (λ s. n s.1)
both (no n) d = no (λ s. n s.0)

abbrev pub either : {A B : Type 0} → Dec A → Dec B → Dec (A ⊎ B)
either (yes a) d = yes (inl a)
either (no n) (yes b) = yes (inr b)
either (no n) (no m) = no (λ s. elim s [ inl a ↦ n a | inr b ↦ m b ])

abbrev pub through : {A B : Type 0} → A ↔ B → Dec A → Dec B
through w (yes a) = yes (w.0 a)
through w (no n) = no (λ b. n (w.1 b))

abbrev pub opposite : {A : Type 0} → Dec A → Dec (¬ A)
opposite (yes a) = no (λ n. n a)
opposite (no n) = yes n

abbrev pub implied : {A B : Type 0} → Dec A → Dec B → Dec (A → B)
implied d (yes b) = yes (λ a. b)
implied (yes a) (no n) = no (λ i. n (i a))
implied (no m) (no n) = yes (λ a. absurd (m a))

abbrev pub further : {P : ℕ → Type 0} {n : ℕ} → Dec ((i : ℕ) × (i < n) × P i) → Dec (P n) → Dec ((i : ℕ) × (i < suc n) × P i)
further (yes (i, h, p)) d = yes (i, omega arith, p)
further {n = n} (no none) (yes p) = yes (n, omega arith, p)
further {P} {n} (no none) (no not) =
    no (λ (i, h, p). elim (ℕ_discrete i n) [ yes e ↦ not (subst P e p) | no ne ↦ none (i, omega arith, p) ])

unfoldable pub some_below : {P : ℕ → Type 0} → ((i : ℕ) → Dec (P i)) → (n : ℕ) → Dec ((i : ℕ) × (i < n) × P i)
some_below P? zero = no (λ (i, h, p). omega arith)
some_below P? (suc n) = further (some_below P? n) (P? n)

unfoldable pub each_below : {P : ℕ → Type 0} → ((i : ℕ) → Dec (P i)) → (n : ℕ) → Dec ((i : ℕ) → i < n → P i)
each_below P? zero = yes (λ i h. absurd (omega arith))
each_below {P} P? (suc n) =
    elim (each_below P? n) [
      | yes all ↦ elim (P? n) [
        | yes p ↦ yes (λ i h. elim (ℕ_discrete i n) [ yes e ↦ subst P (sym e) p | no ne ↦ all i (omega arith) ])
        | no not ↦ no (λ each. not (each n (omega arith)))
      ]
      | no some ↦ no (λ each. some (λ i h. each i (omega arith)))
    ]
