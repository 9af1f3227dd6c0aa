-- What a search finds.
--   found_has       it finds a number that has P, where there is one
--   found_first     no number below the one it found has P
--   found_least     so it finds the least
--   those_new, those_old    a number that has P comes after those below it; any other adds nothing
--   those_at        each of those below n is below n, and has P
--   those_has       each number below n that has P is one of them
--   those_ascending they ascend--   those_same      of statements that say the same they are the same
--   those_count     those that have P and those that don't are n together
use Prim.Native.Nat.{ℕ, zero, suc, ◌+◌, ◌<◌}
use mathlib.Core.Path.{◌≡◌, refl, sym, ap, ◌∙◌}
use mathlib.Core.List.{List, [], ◌∷◌, ◌++◌}
use mathlib.Core.Logic.{◌⊎◌, inl, inr, ⊎_elim, ◌↔◌}
use native.Mathlib.Decide.{ℕ_discrete, dec_lt}
use native.Mathlib.Omega.{arith}
use lib.ListN.{length, get_or, length-append, get_or-append}
use lib.Seq.{get_or-append_seam}
use Rattle.kinds.specs.Decided.{opposite, further, some_below}
use Rattle.kinds.specs.Search.{found, with_if, those}

module _ {P : ℕ → Type 0} (P? : (i : ℕ) → Dec (P i)) where
  has : {n : ℕ} (d : Dec ((i : ℕ) × (i < n) × P i)) → (i : ℕ) × (i < n) × P i → (found d < n) × P (found d)
  has (yes (i, h, p)) some = (h, p)
  has (no none) some = absurd (none some)

  pub found_has : (n : ℕ) → (i : ℕ) × (i < n) × P i → (found (some_below P? n) < n) × P (found (some_below P? n))
  found_has n = has (some_below P? n)

  first : {n : ℕ} (d : Dec ((i : ℕ) × (i < n) × P i)) (e : Dec (P n)) (j : ℕ) → (j < found d → ¬ P j) → j < found (further d e) → ¬ P j
  first (yes (i, l, p)) e j lower h = lower h
  first (no none) (yes p) j lower h = λ q. none (j, h, q)
  first (no none) (no not) j lower h = absurd (omega arith)

  pub found_first : (n j : ℕ) → j < found (some_below P? n) → ¬ P j
  unfolding some_below
  found_first zero j h = absurd (omega arith)
  found_first (suc n) j h = first (some_below P? n) (P? n) j (found_first n j) h

  pub found_least : (n i : ℕ) → i < n → P i → ((j : ℕ) → j < i → ¬ P j) → found (some_below P? n) ≡ i
  found_least n i h p least =
      let (l, q) = found_has n (i, h, p) in
      elim (dec_lt (found (some_below P? n)) i) [
        | yes lower ↦ absurd (least _ lower q)
        | no not ↦ elim (dec_lt i (found (some_below P? n))) [ yes lower ↦ absurd (found_first n i lower p) | no same ↦ omega arith ]
      ]

-- ---- all that have P

module _ (ps : List ℕ) (n : ℕ) where
  with_new : {A : Type 0} (d : Dec A) → A → with_if d ps n ≡ ps ++ (n ∷ [])
  with_new (yes a) h = refl
  with_new (no not) h = absurd (not h)

  with_old : {A : Type 0} (d : Dec A) → ¬ A → with_if d ps n ≡ ps
  with_old (yes a) h = absurd (h a)
  with_old (no not) h = refl

  earlier_at : {l : ℕ} → l < length ps → get_or (ps ++ (n ∷ [])) l 0 ≡ get_or ps l 0
  earlier_at {l} = get_or-append ps (n ∷ []) 0 l

  last_at : get_or (ps ++ (n ∷ [])) (length ps) 0 ≡ n
  last_at = get_or-append_seam ps n [] 0

  -- a number of the longer list is one of the shorter, or the last
  each_at : {l : ℕ} → l < length (ps ++ (n ∷ []))
      → ((l < length ps) × (get_or (ps ++ (n ∷ [])) l 0 ≡ get_or ps l 0)) ⊎ (get_or (ps ++ (n ∷ [])) l 0 ≡ n)
  each_at {l} h = elim (dec_lt l (length ps)) [
    | yes k ↦ inl (k, earlier_at k)
    | no k ↦ let last : l ≡ length ps = omega (arith, length-append ps (n ∷ [])) in inr (rw last last_at)
  ]

module _ {P : ℕ → Type 0} (P? : (i : ℕ) → Dec (P i)) where
  pub those_new : (n : ℕ) → P n → those P? (suc n) ≡ those P? n ++ (n ∷ [])
  unfolding those
  those_new n = with_new (those P? n) n (P? n)

  pub those_old : (n : ℕ) → ¬ P n → those P? (suc n) ≡ those P? n
  unfolding those
  those_old n = with_old (those P? n) n (P? n)

  -- what holds of no number, and stays when one is passed that has P or hasn't, holds of those
  by_steps : (R : ℕ → List ℕ → Type 0) → R 0 [] → ((n : ℕ) → ¬ P n → R n (those P? n) → R (suc n) (those P? n))
      → ((n : ℕ) → P n → R n (those P? n) → R (suc n) (those P? n ++ (n ∷ []))) → (n : ℕ) → R n (those P? n)
  unfolding those
  by_steps R start old new zero = start
  by_steps R start old new (suc n) = go (by_steps R start old new n) (P? n)
    where
      go : R n (those P? n) → (d : Dec (P n)) → R (suc n) (with_if d (those P? n) n)
      go r (yes p) = new n p r
      go r (no not) = old n not r

  pub those_at : (n l : ℕ) → l < length (those P? n) → (get_or (those P? n) l 0 < n) × P (get_or (those P? n) l 0)
  those_at =
      by_steps (λ n ps. (l : ℕ) → l < length ps → (get_or ps l 0 < n) × P (get_or ps l 0))
      (λ l h. absurd (omega arith))
      (λ n not at l h. (omega (arith, (at l h).0), (at l h).1))
      (λ n p at l h. ⊎_elim
      (λ (k, e). rw e (omega (arith, (at l k).0), (at l k).1))
      (λ e. rw e (omega arith, p))
      (each_at (those P? n) n h))

  pub those_has : (n i : ℕ) → i < n → P i → (l : ℕ) × (l < length (those P? n)) × (get_or (those P? n) l 0 ≡ i)
  those_has =
      by_steps (λ n ps. (i : ℕ) → i < n → P i → (l : ℕ) × (l < length ps) × (get_or ps l 0 ≡ i))
      (λ i h. absurd (omega arith))
      (λ n not has i h p. elim (ℕ_discrete i n) [ yes e ↦ absurd (not (rw e at p)) | no ne ↦ has i (omega arith) p ])
      (λ n p has i h q. elim (ℕ_discrete i n) [
        | yes e ↦ (length (those P? n), omega (arith, length-append (those P? n) (n ∷ [])), last_at (those P? n) n ∙ sym e)
        | no ne ↦ let (l, k, e) = has i (omega arith) q in (l, omega (arith, length-append (those P? n) (n ∷ [])), earlier_at (those P? n) n k ∙ e)
      ])

  pub those_ascending : (n l : ℕ) → suc l < length (those P? n) → get_or (those P? n) l 0 < get_or (those P? n) (suc l) 0
  those_ascending =
      by_steps (λ n ps. (l : ℕ) → suc l < length ps → get_or ps l 0 < get_or ps (suc l) 0) (λ l h. absurd (omega arith)) (λ n not up. up)
      (λ n p up l h.
      let k : l < length (those P? n) = omega (arith, length-append (those P? n) (n ∷ [])) in
      rw (earlier_at (those P? n) n k)
      (⊎_elim (λ (m, e). rw e (up l m)) (λ e. rw e (those_at n l k).0) (each_at (those P? n) n h)))

module _ {P : ℕ → Type 0} (P? : (i : ℕ) → Dec (P i)) where
  pub those_same : {Q : ℕ → Type 0} (Q? : (i : ℕ) → Dec (Q i)) (n : ℕ) → ((i : ℕ) → i < n → P i ↔ Q i) → those P? n ≡ those Q? n
  unfolding those
  those_same Q? zero same = refl
  those_same Q? (suc n) same =
      let before = those_same Q? n (λ i h. same i (omega arith)) in
      elim (P? n) [
        | yes p ↦ those_new P? n p ∙ ap (λ (ps : List ℕ). ps ++ (n ∷ [])) before ∙ sym (those_new Q? n ((same n (omega arith)).0 p))
        | no not ↦ those_old P? n not ∙ before ∙ sym (those_old Q? n (λ q. not ((same n (omega arith)).1 q)))
      ]

  pub those_count : (n : ℕ) → length (those P? n) + length (those (λ i. opposite (P? i)) n) ≡ n
  unfolding those
  those_count zero = refl
  those_count (suc n) = elim (P? n) [
    | yes p ↦ rw (those_new P? n p, those_old (λ i. opposite (P? i)) n (λ not. not p), length-append) (omega (arith, those_count n))
    | no not ↦ rw (those_old P? n not, those_new (λ i. opposite (P? i)) n not, length-append) (omega (arith, those_count n))
  ]
