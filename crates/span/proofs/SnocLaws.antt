-- The scan of a list with one number more, v, after vs.
--   next_at         the number scanned next is v
--   next_members    it is scanned after the numbers kept of vs
--   kept_old        if v is a sum of those kept, the same are kept
--   kept_new        if not, v is kept after them
--   Sum_before_snoc, Is_kept_snoc    v is a sum of those kept before it, or kept, as it is a sum of those kept of vs or not
use Prim.Native.Nat.{ℕ, suc}
use mathlib.Core.Path.{◌≡◌, ap, ap₂, ◌∙◌}
use mathlib.Core.List.{List, [], ◌∷◌, ◌++◌, map-append}
use mathlib.Core.Logic.{◌↔◌}
use native.Mathlib.Omega.{arith}
use lib.ListN.{length, get_or}
use lib.Seq.{get_or-append_seam}
use Rattle.span.specs.Sums.{SumOf}
use Rattle.span.specs.Scan.{members, kept_at, kept}
use Rattle.span.proofs.SumLaws.{length_snoc}
use Rattle.span.proofs.ScanLaws.{members_prefix, kept_at_prefix, kept_at_below, kept_at_old, kept_at_new, SumBefore, IsKept}

module _ (vs : List ℕ) (v : ℕ) where
  abbrev more : List ℕ
  more = vs ++ (v ∷ [])

  pub next_at : get_or more (length vs) 0 ≡ v
  next_at = get_or-append_seam vs v [] 0

  pub next_members : members more (kept_at more (length vs)) ≡ kept vs
  unfolding kept
  next_members =
      ap (members more) (kept_at_prefix vs (v ∷ []) (length vs) (omega arith))
      ∙ members_prefix vs (v ∷ []) (kept_at vs (length vs)) (kept_at_below vs (length vs))

  pub Sum_before_snoc : SumBefore more (length vs) ↔ SumOf (kept vs) v
  Sum_before_snoc = (λ s. rw (next_members, next_at) at s, λ s. rw (next_members, next_at) s)

  pub Is_kept_snoc : IsKept more (length vs) ↔ (¬ SumOf (kept vs) v)
  Is_kept_snoc = (λ k s. k (Sum_before_snoc.1 s), λ n s. n (Sum_before_snoc.0 s))

  last : kept more ≡ members more (kept_at more (suc (length vs)))
  unfolding kept
  last = ap (λ (n : ℕ). members more (kept_at more n)) (length_snoc vs v)

  pub kept_old : SumOf (kept vs) v → kept more ≡ kept vs
  kept_old s = last ∙ ap (members more) (kept_at_old more (length vs) (Sum_before_snoc.1 s)) ∙ next_members

  pub kept_new : ¬ SumOf (kept vs) v → kept more ≡ kept vs ++ (v ∷ [])
  kept_new new =
      last
      ∙ ap (members more) (kept_at_new more (length vs) (Is_kept_snoc.1 new))
      ∙ map-append (λ p. get_or more p 0) (kept_at more (length vs)) (length vs ∷ [])
      ∙ ap₂ (λ (cs : List ℕ) (c : ℕ). cs ++ (c ∷ [])) next_members next_at
