-- The scan, for any list: what is kept.
--   SumBefore vs i           number i of vs is a sum of those kept before it
--   sum_before? vs i          whether it is
--   IsKept vs i              number i of vs is kept: it is no sum of those kept before it
--   map_at                   the value at a place of a list of values
--   members_at, units_at     the member and the unit at a place of a list of positions
--   over ps m                the mask m over the positions ps, as a mask over all positions
--   units_length             there are as many units as positions
--   kept_or_sum              each number is kept, or is a sum of those kept before it
--   kept_those               the positions kept are those of the numbers that are no sum of those kept before
--   kept_at_old, kept_at_new   a sum adds no position; any other number adds its own
--   kept_at_below             the positions kept among the first i are below i
--   kept_at_ascending         they ascend
--   kept_at_longer            later no fewer are kept
--   kept_at_more              a sum over the positions kept is one over those kept later: of members, and of units
--   others_below             the positions of a list that are not kept are among its positions
--   kept_apart               none of them is kept
--   kept_independent         the numbers kept are independent
--   scanned_sum              each scanned number is a sum of those kept at or before it
--   span_earlier             the sums of those kept are the sums of all scanned so far
--   Is_kept_earlier           so a number is kept exactly when it is no sum of earlier ones
--   members_prefix, kept_at_prefix, Is_kept_prefix    the scan of a list's beginning is the beginning of its scan
use Prim.Native.Nat.{ℕ, zero, suc, ◌^◌, ◌≤◌, ◌<◌}
use mathlib.Core.Path.{◌≡◌, refl, sym, ap, ap₂, ◌∙◌}
use mathlib.Core.List.{List, [], ◌∷◌, ◌++◌, map, map-append, append-nil, append_assoc}
use mathlib.Core.Logic.{◌⊎◌, inl, inr, ⊎_elim, ◌↔◌, ◌≢◌}
use native.Mathlib.Decide.{le_ind}
use native.Mathlib.Omega.{arith}
use lib.ListN.{length, get_or, take, length-map, length-take, length-append, get_or-append}
use lib.Seq.{get_or-take}
use Rattle.kinds.specs.Decided.{opposite}
use Rattle.kinds.specs.Search.{with_if, those}
use Rattle.kinds.proofs.SearchLaws.{those_new, those_old, those_at, those_ascending}
use Rattle.bits.specs.Image.{image, AllBelow}
use Rattle.span.specs.Sums.{SumOf, Independent}
use Rattle.span.specs.Decisions.{sum_of?}
use Rattle.span.specs.Scan.{members, kept_at, units, others}
use Rattle.span.proofs.SumLaws.{sum_member, sum_left, sum_right, span_trans, independent_nil, independent_snoc}

pub map_at : (f : ℕ → ℕ) (ps : List ℕ) (l : ℕ) → l < length ps → get_or (map f ps) l 0 ≡ f (get_or ps l 0)
map_at f [] l h = absurd (omega arith)
map_at f (p ∷ ps) zero h = refl
map_at f (p ∷ ps) (suc l) h = map_at f ps l (omega arith)

pub members_at : (vs ps : List ℕ) (l : ℕ) → l < length ps → get_or (members vs ps) l 0 ≡ get_or vs (get_or ps l 0) 0
members_at vs = map_at (λ p. get_or vs p 0)

pub units_at : (ps : List ℕ) (l : ℕ) → l < length ps → get_or (units ps) l 0 ≡ 2 ^ get_or ps l 0
units_at = map_at (λ p. 2 ^ p)

abbrev pub over : List ℕ → ℕ → ℕ
over ps m = image (units ps) m

pub units_length : (ps : List ℕ) → length (units ps) ≡ length ps
units_length ps = length-map ps (λ p. 2 ^ p)

-- ---- one step of the scan

abbrev pub SumBefore : List ℕ → ℕ → Type 0
SumBefore vs i = SumOf (members vs (kept_at vs i)) (get_or vs i 0)

abbrev pub sum_before? : (vs : List ℕ) (i : ℕ) → Dec (SumBefore vs i)
sum_before? vs i = sum_of? (members vs (kept_at vs i)) (get_or vs i 0)

abbrev pub IsKept : List ℕ → ℕ → Type 0
IsKept vs i = ¬ SumBefore vs i

pub kept_or_sum : (vs : List ℕ) (i : ℕ) → IsKept vs i ⊎ SumBefore vs i
kept_or_sum vs i = elim (sum_before? vs i) [ yes s ↦ inr s | no k ↦ inl k ]

module _ (vs : List ℕ) where
  abbrev is_kept? : (i : ℕ) → Dec (IsKept vs i)
  is_kept? i = opposite (sum_before? vs i)

  pub kept_those : (i : ℕ) → kept_at vs i ≡ those (λ j. opposite (sum_before? vs j)) i
  unfolding kept_at those
  kept_those zero = refl
  kept_those (suc i) = ap (λ (ps : List ℕ). with_if (is_kept? i) ps i) (kept_those i)

  pub kept_at_old : (i : ℕ) → SumBefore vs i → kept_at vs (suc i) ≡ kept_at vs i
  kept_at_old i s = kept_those (suc i) ∙ those_old is_kept? i (λ k. k s) ∙ sym (kept_those i)

  pub kept_at_new : (i : ℕ) → IsKept vs i → kept_at vs (suc i) ≡ kept_at vs i ++ (i ∷ [])
  kept_at_new i k = rw (kept_those i) (kept_those (suc i) ∙ those_new is_kept? i k)

  pub kept_at_below : (i : ℕ) → AllBelow i (kept_at vs i)
  kept_at_below i = rw (kept_those i) (λ l h. (those_at is_kept? i l h).0)

  pub kept_at_ascending : (i l : ℕ) → suc l < length (kept_at vs i) → get_or (kept_at vs i) l 0 < get_or (kept_at vs i) (suc l) 0
  kept_at_ascending i = rw (kept_those i) (those_ascending is_kept? i)

  -- what is kept later comes after
  later : {i k : ℕ} → i ≤ k → (ps : List ℕ) × (kept_at vs k ≡ kept_at vs i ++ ps)
  later {i} {k} h = le_ind (λ (k : ℕ). (ps : List ℕ) × (kept_at vs k ≡ kept_at vs i ++ ps)) ([], sym (append-nil (kept_at vs i)))
      (λ k l (ps, e). ⊎_elim
      (λ new. (ps ++ (k ∷ []), kept_at_new k new ∙ rw e (append_assoc (kept_at vs i) ps (k ∷ []))))
      (λ old. (ps, kept_at_old k old ∙ e))
      (kept_or_sum vs k))
      k h

  pub kept_at_longer : {i j : ℕ} → i ≤ j → length (kept_at vs i) ≤ length (kept_at vs j)
  kept_at_longer {i} h = let (ps, e) = later h in rw (e, length-append) (omega arith)

  pub kept_at_more : (f : ℕ → ℕ) {i k : ℕ} → i ≤ k → {v : ℕ} → SumOf (map f (kept_at vs i)) v → SumOf (map f (kept_at vs k)) v
  kept_at_more f {i} h s = let (ps, e) = later h in rw (e, map-append f (kept_at vs i) ps) (sum_left (map f ps) s)

pub others_below : (vs : List ℕ) → AllBelow (length vs) (others vs)
unfolding others
others_below vs l h = (those_at (sum_before? vs) (length vs) l h).0

pub kept_apart : (vs : List ℕ) (l m : ℕ) → l < length (kept_at vs (length vs)) → m < length (others vs)
    → get_or (kept_at vs (length vs)) l 0 ≢ get_or (others vs) m 0
unfolding others
kept_apart vs l m h g same = is_kept l h (rw same (those_at (sum_before? vs) (length vs) m g).1)
  where
    is_kept : (l : ℕ) → l < length (kept_at vs (length vs)) → IsKept vs (get_or (kept_at vs (length vs)) l 0)
    is_kept = rw (kept_those vs (length vs)) (λ l h. (those_at (λ j. opposite (sum_before? vs j)) (length vs) l h).1)

grown : (vs ps : List ℕ) (i : ℕ) → members vs (ps ++ (i ∷ [])) ≡ members vs ps ++ (get_or vs i 0 ∷ [])
grown vs ps i = map-append (λ p. get_or vs p 0) ps (i ∷ [])

pub kept_independent : (vs : List ℕ) (i : ℕ) → Independent (members vs (kept_at vs i))
unfolding kept_at
kept_independent vs zero = independent_nil
kept_independent vs (suc i) = ⊎_elim
    (λ new.
    rw (kept_at_new vs i new, grown vs (kept_at vs i) i)
    (independent_snoc (members vs (kept_at vs i)) (get_or vs i 0) (kept_independent vs i) new))
    (λ old. rw (kept_at_old vs i old) (kept_independent vs i))
    (kept_or_sum vs i)

pub scanned_sum : (vs : List ℕ) {j i : ℕ} → j < i → SumOf (members vs (kept_at vs i)) (get_or vs j 0)
scanned_sum vs {j} h = kept_at_more vs (λ p. get_or vs p 0) h (⊎_elim
    (λ new. rw (kept_at_new vs j new, grown vs (kept_at vs j) j) (sum_right (members vs (kept_at vs j)) (sum_member (get_or vs j 0 ∷ []) 0)))
    (λ old. rw (kept_at_old vs j old) old)
    (kept_or_sum vs j))

-- ---- kept ones and earlier ones

pub span_earlier : (vs : List ℕ) (i v : ℕ) → i ≤ length vs → SumOf (take i vs) v ↔ SumOf (members vs (kept_at vs i)) v
span_earlier vs i v h = (
  span_trans {cs = take i vs} (λ j l. let k : j < i = omega (arith, length-take i vs) in rw (get_or-take i vs j 0 k) (scanned_sum vs k)),
  span_trans {cs = members vs (kept_at vs i)}
      (λ l k.
      let m : l < length (kept_at vs i) = rw length-map at k in
      let p : ℕ = get_or (kept_at vs i) l 0 in
      rw (members_at vs (kept_at vs i) l m, ← get_or-take i vs p 0 (kept_at_below vs i l m)) (sum_member (take i vs) p)),
)

pub Is_kept_earlier : (vs : List ℕ) (i : ℕ) → i ≤ length vs → IsKept vs i ↔ (¬ SumOf (take i vs) (get_or vs i 0))
Is_kept_earlier vs i h = (λ k s. k ((span_earlier vs i (get_or vs i 0) h).0 s), λ n s. n ((span_earlier vs i (get_or vs i 0) h).1 s))

-- ---- the scan of a list's beginning is the beginning of its scan

module _ (vs ws : List ℕ) where
  pub members_prefix : (ps : List ℕ) → AllBelow (length vs) ps → members (vs ++ ws) ps ≡ members vs ps
  members_prefix [] b = refl
  members_prefix (p ∷ ps) b =
      ap₂ (λ (v : ℕ) (l : List ℕ). v ∷ l) (get_or-append vs ws 0 p (b 0 (omega arith)))
      (members_prefix ps (λ l h. b (suc l) (omega arith)))

  -- what a step of the scan looks at is the same
  same_step : {i : ℕ} → i < length vs → kept_at (vs ++ ws) i ≡ kept_at vs i
      → (members (vs ++ ws) (kept_at (vs ++ ws) i) ≡ members vs (kept_at vs i)) × (get_or (vs ++ ws) i 0 ≡ get_or vs i 0)
  same_step {i} h same = (
    ap (members (vs ++ ws)) same ∙ members_prefix (kept_at vs i) (λ l k. omega (arith, kept_at_below vs i l k)),
    get_or-append vs ws 0 i h,
  )

  pub kept_at_prefix : (i : ℕ) → i ≤ length vs → kept_at (vs ++ ws) i ≡ kept_at vs i
  unfolding kept_at
  kept_at_prefix zero h = refl
  kept_at_prefix (suc i) h =
      let same = kept_at_prefix i (omega arith) in
      let step = same_step h same in
      ap (λ (ps : List ℕ). with_if (opposite (sum_of? (members (vs ++ ws) (kept_at (vs ++ ws) i)) (get_or (vs ++ ws) i 0))) ps i) same
      ∙ ap₂ (λ (cs : List ℕ) (v : ℕ). with_if (opposite (sum_of? cs v)) (kept_at vs i) i) step.0 step.1

  pub Is_kept_prefix : (i : ℕ) → i < length vs → IsKept (vs ++ ws) i ↔ IsKept vs i
  Is_kept_prefix i h =
      let step = same_step h (kept_at_prefix i (omega arith)) in
      (λ k s. k (rw (step.0, step.1) s), λ k s. k (rw (step.0, step.1) at s))
