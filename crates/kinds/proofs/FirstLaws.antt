-- The law of `first_of`.
--   none_some      a refusal is not none
--   first_nil      an empty table refuses nothing
--   first_take     a first reason that applies is given
--   first_skip     a first reason that doesn't leaves the rest to decide
--   first_alike    tables whose first reasons give the same refusal, and apply alike, and which go on alike, give the same
--   first_append   a table after another decides where that one gives nothing
--   first_before   what a table gives, it gives with another after it
--   first_none     nothing is given exactly when no reason applies
--   first_both     a table and another after it give nothing exactly when neither does
--   first_exact    what is given is the first that applies, and nothing else
--   first_has      what every refusal of a table has, the one that is given has
--   lowest_law     of a table with ascending numbers, what is given is the lowest that applies, and nothing else
use Prim.Native.Nat.{ℕ, ◌<◌, ◌≤◌}
use mathlib.Core.Path.{◌≡◌, refl, sym, ap, ◌∙◌}
use mathlib.Core.List.{List, [], ◌∷◌, ◌++◌}
use mathlib.Core.Logic.{inl, inr, ◌↔◌}
use mathlib.Core.Option.{Option, none, some}
use native.Mathlib.Omega.{arith}
use Rattle.kinds.specs.Refusal.{number_of}
use Rattle.kinds.specs.First.{Reason, or_else, first_of, EachReason, AnyReason, FirstThatApplies, Ascending, LowestThatApplies}
use Rattle.kinds.specs.declared.Refusal.{Refusal}

take : {A : Type 0} (d : Dec A) (r : Refusal) (o : Option Refusal) → A → or_else d r o ≡ some r
take (yes a) r o h = refl
take (no n) r o h = absurd (n h)

skip : {A : Type 0} (d : Dec A) (r : Refusal) (o : Option Refusal) → ¬ A → or_else d r o ≡ o
skip (yes a) r o h = absurd (h a)
skip (no n) r o h = refl

pub first_nil : first_of [] ≡ none
unfolding first_of
first_nil = refl

pub first_take : (r : Reason) (rs : List Reason) → r.applies → first_of (r ∷ rs) ≡ some r.refusal
unfolding first_of
first_take r rs = take r.decided r.refusal (first_of rs)

pub first_skip : (r : Reason) (rs : List Reason) → ¬ r.applies → first_of (r ∷ rs) ≡ first_of rs
unfolding first_of
first_skip r rs = skip r.decided r.refusal (first_of rs)

pub first_alike : (r q : Reason) (rs qs : List Reason) → r.refusal ≡ q.refusal → r.applies ↔ q.applies → first_of rs ≡ first_of qs → first_of (r ∷ rs) ≡ first_of (q ∷ qs)
first_alike r q rs qs given same rest = elim r.decided [
  | yes a ↦ first_take r rs a ∙ ap some given ∙ sym (first_take q qs (same.0 a))
  | no n ↦ first_skip r rs n ∙ rest ∙ sym (first_skip q qs (λ b. n (same.1 b)))
]

pub none_some : {x : Refusal} {A : Type 0} → none ≡ some x → A
none_some e = absurd (let z : ◌≡◌ {A = ℕ} 0 1 = cc in omega arith)

none_each : (t : List Reason) → first_of t ≡ none → EachReason (λ r. ¬ r.applies) t
none_each [] e = tt
none_each (r ∷ rs) e = go (none_each rs) r.decided
  where
    go : (first_of rs ≡ none → EachReason (λ s. ¬ s.applies) rs) → Dec r.applies → (¬ r.applies) × EachReason (λ s. ¬ s.applies) rs
    go rest (yes a) = none_some (sym e ∙ first_take r rs a)
    go rest (no n) = (n, rest (sym (first_skip r rs n) ∙ e))

each_none : (t : List Reason) → EachReason (λ r. ¬ r.applies) t → first_of t ≡ none
each_none [] h = first_nil
each_none (r ∷ rs) h = first_skip r rs h.0 ∙ each_none rs h.1

pub first_none : (t : List Reason) → first_of t ≡ none ↔ EachReason (λ r. ¬ r.applies) t
first_none t = (none_each t, each_none t)

pub first_append : (s t : List Reason) → EachReason (λ r. ¬ r.applies) s → first_of (s ++ t) ≡ first_of t
first_append [] t h = refl
first_append (r ∷ s) t h = first_skip r (s ++ t) h.0 ∙ first_append s t h.1

pub first_before : (s t : List Reason) {x : Refusal} → first_of s ≡ some x → first_of (s ++ t) ≡ some x
first_before [] t e = none_some (sym first_nil ∙ e)
first_before (r ∷ s) t {x} e = go (first_before s t) r.decided
  where
    go : (first_of s ≡ some x → first_of (s ++ t) ≡ some x) → Dec r.applies → first_of (r ∷ s ++ t) ≡ some x
    go rest (yes a) = first_take r (s ++ t) a ∙ sym (first_take r s a) ∙ e
    go rest (no n) = first_skip r (s ++ t) n ∙ rest (sym (first_skip r s n) ∙ e)

both_none : (s t : List Reason) → EachReason (λ r. ¬ r.applies) (s ++ t) → EachReason (λ r. ¬ r.applies) s × (first_of t ≡ none)
both_none [] t h = (tt, each_none t h)
both_none (r ∷ s) t h = let (own, rest) = both_none s t h.1 in ((h.0, own), rest)

pub first_both : (s t : List Reason) → first_of (s ++ t) ≡ none ↔ ((first_of s ≡ none) × (first_of t ≡ none))
first_both s t = (
  λ e. let (own, rest) = both_none s t (none_each (s ++ t) e) in (each_none s own, rest),
  λ (own, rest). first_append s t (none_each s own) ∙ rest,
)

given_first : (t : List Reason) (x : Refusal) → first_of t ≡ some x → FirstThatApplies t x
given_first [] x e = none_some (sym first_nil ∙ e)
given_first (r ∷ rs) x e = go (given_first rs x) r.decided
  where
    go : (first_of rs ≡ some x → FirstThatApplies rs x) → Dec r.applies → FirstThatApplies (r ∷ rs) x
    go rest (yes a) = inl (a, cc (first_take r rs a))
    go rest (no n) = inr (n, rest (sym (first_skip r rs n) ∙ e))

first_given : (t : List Reason) (x : Refusal) → FirstThatApplies t x → first_of t ≡ some x
first_given (r ∷ rs) x (inl f) = first_take r rs f.0 ∙ ap some f.1
first_given (r ∷ rs) x (inr f) = first_skip r rs f.0 ∙ first_given rs x f.1
first_given [] x x3 = elim x3 [ ]

pub first_exact : (t : List Reason) (x : Refusal) → first_of t ≡ some x ↔ FirstThatApplies t x
first_exact t x = (given_first t x, first_given t x)

given_has : (Q : Refusal → Type 0) (t : List Reason) {x : Refusal} → EachReason (λ r. Q r.refusal) t → FirstThatApplies t x → Q x
given_has Q (r ∷ rs) each (inl f) = rw f.1 at each.0
given_has Q (r ∷ rs) each (inr f) = given_has Q rs each.1 f.1
given_has Q [] each x4 = elim x4 [ ]

pub first_has : (Q : Refusal → Type 0) (t : List Reason) {x : Refusal} → EachReason (λ r. Q r.refusal) t → first_of t ≡ some x → Q x
first_has Q t {x} each e = given_has Q t each (given_first t x e)

-- where the numbers ascend, the first is the lowest

above : (n : ℕ) (x : Refusal) (t : List Reason) → number_of x ≤ n → EachReason (λ s. n < number_of s.refusal) t
    → EachReason (λ s. s.applies → number_of x ≤ number_of s.refusal) t
above n x [] l h = tt
above n x (s ∷ t) l h = (λ _. omega (arith, h.0), above n x t l h.1)

first_lowest : (t : List Reason) (x : Refusal) → Ascending t → FirstThatApplies t x → LowestThatApplies t x
first_lowest (r ∷ rs) x up (inl f) =
    let least : number_of x ≤ number_of r.refusal = omega (arith, ap number_of f.1) in
    record { applies = inl f; nothing_lower = (λ _. least, above (number_of r.refusal) x rs least up.0) }
first_lowest (r ∷ rs) x up (inr f) =
    let rest = first_lowest rs x up.1 f.1 in
    record { applies = inr rest.applies; nothing_lower = (λ a. absurd (f.0 a), rest.nothing_lower) }
first_lowest [] x up x4 = elim x4 [ ]

any_above : (n : ℕ) (x : Refusal) (t : List Reason) → AnyReason (λ s. s.applies × (s.refusal ≡ x)) t
    → EachReason (λ s. n < number_of s.refusal) t → n < number_of x
any_above n x (s ∷ t) (inl a) h = rw (ap number_of a.1) at h.0
any_above n x (s ∷ t) (inr a) h = any_above n x t a h.1
any_above n x [] x3 h = elim x3 [ ]

lowest_is_first : (t : List Reason) (x : Refusal) → Ascending t → AnyReason (λ r. r.applies × (r.refusal ≡ x)) t
    → EachReason (λ r. r.applies → number_of x ≤ number_of r.refusal) t → FirstThatApplies t x
lowest_is_first (r ∷ rs) x up (inl a) low = inl a
lowest_is_first (r ∷ rs) x up (inr a) low = inr (
  λ first. omega (arith, low.0 first, any_above (number_of r.refusal) x rs a up.0),
  lowest_is_first rs x up.1 a low.1,
)
lowest_is_first [] x up x5 low = elim x5 [ ]

pub lowest_law : (t : List Reason) (x : Refusal) → Ascending t → first_of t ≡ some x ↔ LowestThatApplies t x
lowest_law t x up = (
  λ e. first_lowest t x up (given_first t x e),
  λ l. first_given t x (lowest_is_first t x up l.applies l.nothing_lower),
)
