-- Masks: which numbers make up a scanned one.
--   image_over               a mask over some positions selects the members there
--   over_below               a mask over positions below i has i bits
--   mask_lt                  the mask of number i has i + 1 bits
--   mask_sum                 each scanned number is the sum that its mask says
--   mask_over                its mask selects kept positions, at or before it
--   mask_unique              it is the only mask over kept positions that does
--   mask_kept, mask_before   so a kept number is its own mask; any other's selects positions before it
--   mask_says                and the mask of number i says whether it is kept: it is 2^i at least
--   dependent_at             a number that is not kept shows that the list is dependent
--   masks_length, masks_at   the masks of a list, one for each of its numbers
--   mask_prefix              the masks of a list's beginning are the first of its masks
use Prim.Native.Nat.{ℕ, suc, ◌^◌, ◌≤◌, ◌<◌}
use mathlib.Core.Path.{◌≡◌, refl, sym, ap, ap₂, ◌∙◌}
use mathlib.Core.List.{List, [], ◌∷◌, ◌++◌, map, map-append}
use mathlib.Core.Logic.{⊎_elim, ◌↔◌}
use native.Mathlib.Decide.{ℕ_discrete}
use native.Mathlib.Nat.{pow-suc}
use native.Mathlib.Omega.{arith}
use lib.Bits.{bit_xor, xor_self, xor_lt}
use lib.ListN.{length, get_or, length-map, get_or-append}
use lib.Pow.{pow-lt, pow_mono}
use Rattle.kinds.specs.Decided.{both}
use Rattle.kinds.proofs.SearchLaws.{found_has}
use Rattle.kinds.proofs.FrameLaws.{in_order_length, in_order_at}
use Rattle.bits.specs.Image.{image, AllBelow}
use Rattle.bits.proofs.XorLaws.{xor_zero_eq}
use Rattle.bits.proofs.ImageLaws.{image_unit, image_image, image_lt, image_xor, image_prefix}
use Rattle.span.specs.Sums.{SumOf, Independent}
use Rattle.span.specs.Decisions.{sum_of?}
use Rattle.span.specs.Scan.{members, kept_at, units, mask, masks}
use Rattle.span.proofs.SumLaws.{sum_image, sum_member, sum_right, independent_injective}
use Rattle.span.proofs.ScanLaws.{over, units_at, units_length, kept_or_sum, kept_at_old, kept_at_new, kept_at_below, kept_at_more, kept_at_prefix, kept_independent, SumBefore, IsKept}

pub image_over : (vs ps : List ℕ) (m : ℕ) → image vs (over ps m) ≡ image (members vs ps) m
image_over vs ps m = image_image vs (units ps) m ∙ ap (λ (cs : List ℕ). image cs m) (at_units ps)
  where
    at_units : (ps : List ℕ) → map (image vs) (units ps) ≡ members vs ps
    at_units [] = refl
    at_units (p ∷ ps) = ap₂ (λ (v : ℕ) (l : List ℕ). v ∷ l) (image_unit vs p) (at_units ps)

pub over_below : (i : ℕ) (ps : List ℕ) → AllBelow i ps → (m : ℕ) → over ps m < 2 ^ i
over_below i ps b m =
    image_lt i (units ps) (λ l h. let k : l < length ps = rw length-map at h in rw (units_at ps l k) (pow-lt (b l k))) m

module _ (vs : List ℕ) (i : ℕ) where
  own_unit : IsKept vs i → SumOf (units (kept_at vs (suc i))) (2 ^ i)
  own_unit k =
      rw (kept_at_new vs i k, map-append (λ p. 2 ^ p) (kept_at vs i) (i ∷ [])) (sum_right (units (kept_at vs i)) (sum_member (2 ^ i ∷ []) 0))

  module _ (t : SumBefore vs i) where
    abbrev earlier : ℕ
    earlier = over (kept_at vs i) t.selected

    earlier_lt : earlier < 2 ^ i
    earlier_lt = over_below i (kept_at vs i) (kept_at_below vs i) t.selected

    earlier_sum : image vs earlier ≡ get_or vs i 0
    earlier_sum = image_over vs (kept_at vs i) t.selected ∙ t.sum

    earlier_over : SumOf (units (kept_at vs (suc i))) earlier
    earlier_over = rw (kept_at_old vs i t) (sum_image (units (kept_at vs i)) t.selected)

  -- the mask 2^i where number i is kept, else the one that makes it a sum of those before
  some_mask : (m : ℕ) × (m < 2 ^ suc i) × ((image vs m ≡ get_or vs i 0) × SumOf (units (kept_at vs (suc i))) m)
  some_mask = ⊎_elim
      (λ k. (2 ^ i, pow-lt (omega arith), (image_unit vs i, own_unit k)))
      (λ t. (earlier t, omega (arith, earlier_lt t, pow-suc 2 i), (earlier_sum t, earlier_over t)))
      (kept_or_sum vs i)

  mask_has : (mask vs i < 2 ^ suc i) × ((image vs (mask vs i) ≡ get_or vs i 0) × SumOf (units (kept_at vs (suc i))) (mask vs i))
  unfolding mask
  mask_has = found_has (λ m. both (ℕ_discrete (image vs m) (get_or vs i 0)) (sum_of? (units (kept_at vs (suc i))) m)) (2 ^ suc i) some_mask

  pub mask_lt : mask vs i < 2 ^ suc i
  mask_lt = mask_has.0

  pub mask_sum : image vs (mask vs i) ≡ get_or vs i 0
  mask_sum = mask_has.1.0

  pub mask_over : SumOf (units (kept_at vs (suc i))) (mask vs i)
  mask_over = mask_has.1.1

  pub mask_unique : {n m : ℕ} → i < n → SumOf (units (kept_at vs n)) m → image vs m ≡ get_or vs i 0 → m ≡ mask vs i
  mask_unique {n} {m} h s e =
      let t = kept_at_more vs (λ p. 2 ^ p) h mask_over in
      sym s.sum
      ∙ ap (over (kept_at vs n))
      (independent_injective (members vs (kept_at vs n)) (kept_independent vs n) s.selected t.selected (short s) (short t)
      (selects s ∙ e ∙ sym mask_sum ∙ sym (selects t)))
      ∙ t.sum
    where
      short : {m : ℕ} (s : SumOf (units (kept_at vs n)) m) → s.selected < 2 ^ length (members vs (kept_at vs n))
      short s = rw (length-map (kept_at vs n) (λ p. get_or vs p 0), ← units_length (kept_at vs n)) s.below

      selects : {m : ℕ} (s : SumOf (units (kept_at vs n)) m) → image (members vs (kept_at vs n)) s.selected ≡ image vs m
      selects s = sym (image_over vs (kept_at vs n) s.selected) ∙ ap (image vs) s.sum

  pub mask_kept : IsKept vs i → mask vs i ≡ 2 ^ i
  mask_kept k = sym (mask_unique {n = suc i} (omega arith) (own_unit k) (image_unit vs i))

  pub mask_before : SumBefore vs i → mask vs i < 2 ^ i
  mask_before t = omega (arith, earlier_lt t, mask_unique {n = suc i} (omega arith) (earlier_over t) (earlier_sum t))

  pub mask_says : IsKept vs i ↔ (2 ^ i ≤ mask vs i)
  mask_says = (λ k. omega (arith, mask_kept k), λ h s. omega (arith, mask_before s))

  pub dependent_at : i < length vs → SumBefore vs i → ¬ Independent vs
  dependent_at h t ind =
      let low = mask_before t in
      let up : 2 ^ i < 2 ^ length vs = pow-lt h in
      let none : image vs (bit_xor (mask vs i) (2 ^ i)) ≡ 0 = image_xor vs (mask vs i) (2 ^ i) ∙ ap₂ bit_xor mask_sum (image_unit vs i) ∙ xor_self (get_or vs i 0) in
      let small = xor_lt (length vs) (mask vs i) (2 ^ i) (omega (arith, low, up)) up in
      omega (arith, low, xor_zero_eq (mask vs i) (2 ^ i) (ind (bit_xor (mask vs i) (2 ^ i)) small none))

module _ (vs : List ℕ) where
  pub masks_length : length (masks vs) ≡ length vs
  unfolding masks
  masks_length = in_order_length (length vs) (mask vs)

  pub masks_at : (i : ℕ) → i < length vs → get_or (masks vs) i 0 ≡ mask vs i
  unfolding masks
  masks_at = in_order_at (length vs) (mask vs) 0

pub mask_prefix : (vs ws : List ℕ) (i : ℕ) → i < length vs → mask (vs ++ ws) i ≡ mask vs i
mask_prefix vs ws i h =
    let short : mask vs i < 2 ^ length vs = omega (arith, mask_lt vs i, pow_mono {i = suc i} {j = length vs} h) in
    sym (mask_unique (vs ++ ws) i {n = suc i} (omega arith) (rw (kept_at_prefix vs ws (suc i) h) (mask_over vs i))
    (image_prefix vs ws (mask vs i) short ∙ mask_sum vs i ∙ sym (get_or-append vs ws 0 i h)))
