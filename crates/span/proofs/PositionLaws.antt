-- Kept positions, and masks read bit by bit over them.
--   over_none          a mask over some positions has no bit at any other
--   units_none         where the units of positions make 0 of x, its bits there are 0
--   others_independent the units of the positions that are not kept are independent--   sum_by_bits        the kept numbers whose positions are in the mask of number j have number j as their sum
use Prim.Native.Nat.{ℕ, zero, suc, ◌^◌, ◌<◌}
use mathlib.Core.Path.{◌≡◌, sym, ap, ◌∙◌}
use mathlib.Core.List.{List, [], ◌∷◌, map-append}
use mathlib.Core.Logic.{◌≢◌}
use native.Mathlib.Decide.{ℕ_discrete, dec_lt}
use native.Mathlib.Omega.{arith}
use lib.ListN.{length, get_or, length-map}
use lib.Pow.{pow-lt}
use Rattle.kinds.specs.Search.{with_if, those}
use Rattle.kinds.proofs.SearchLaws.{those_at}
use Rattle.bits.specs.Image.{image}
use Rattle.bits.specs.Parity.{bit, dot}
use Rattle.bits.proofs.ParityLaws.{dot_unit, bit_same, bit_other, by_bits, dot_comm, dot_zero}
use Rattle.span.specs.Rows.{dots}
use Rattle.span.specs.Scan.{kept_at, kept, others, units, mask}
use Rattle.span.specs.Sums.{Independent}
use Rattle.span.proofs.RowLaws.{dots_lt, dots_bit, dot_image, dots_none, dots_cons}
use Rattle.span.proofs.ScanLaws.{units_at, kept_at_ascending, kept_at_more, sum_before?, over}
use Rattle.span.proofs.MaskLaws.{image_over, mask_sum, mask_over, over_below}
use Rattle.span.proofs.SumLaws.{independent_nil, independent_snoc}

module _ (vs : List ℕ) (i : ℕ) where
  abbrev ps : List ℕ
  ps = kept_at vs i

  kept_at_before : (l s : ℕ) → l < s → s < length ps → get_or ps l 0 < get_or ps s 0
  kept_at_before l zero h k = absurd (omega arith)
  kept_at_before l (suc s) h k =
      let step = kept_at_ascending vs i s k in
      elim (ℕ_discrete l s) [
        | yes e ↦ rw e step
        | no ne ↦ omega (arith, step, kept_at_before l s (omega arith) (omega arith))
      ]

  apart : (l s : ℕ) → l < length ps → s < length ps → l ≢ s → get_or ps l 0 ≢ get_or ps s 0
  apart l s h k ne e =
      elim (dec_lt l s) [
        | yes b ↦ omega (arith, e, kept_at_before l s b k)
        | no b ↦ omega (arith, e, kept_at_before s l (omega arith) h)
      ]

  -- 2^p selects, of the units of the kept positions, the one of p
  units_dual : (s : ℕ) → s < length ps → dots (units ps) (2 ^ get_or ps s 0) ≡ 2 ^ s
  units_dual s h =
      by_bits (length ps) (dots (units ps) (2 ^ get_or ps s 0)) (2 ^ s) (rw length-map at (dots_lt (units ps) (2 ^ get_or ps s 0))) (pow-lt h)
      (λ l k.
      dots_bit (units ps) (2 ^ get_or ps s 0) l (rw length-map k)
      ∙ ap (λ (u : ℕ). dot u (2 ^ get_or ps s 0)) (units_at ps l k)
      ∙ dot_unit (get_or ps s 0) (2 ^ get_or ps l 0)
      ∙ at l k (ℕ_discrete l s))
    where
      at : (l : ℕ) → l < length ps → Dec (l ≡ s) → bit (get_or ps s 0) (2 ^ get_or ps l 0) ≡ bit l (2 ^ s)
      at l k (yes e) = rw e (bit_same (get_or ps s 0) ∙ sym (bit_same s))
      at l k (no ne) = bit_other (get_or ps s 0) (get_or ps l 0) (λ e. apart l s k h ne (sym e)) ∙ sym (bit_other l s ne)

  -- bit p of a mask over the kept positions says whether p is selected
  over_bit : (s y : ℕ) → s < length ps → bit (get_or ps s 0) (over ps y) ≡ bit s y
  over_bit s y h =
      sym (dot_unit (get_or ps s 0) (over ps y)) ∙ dot_image (units ps) y (2 ^ get_or ps s 0) ∙ ap (dot y) (units_dual s h) ∙ dot_unit s y

pub over_none : (ps : List ℕ) (i y : ℕ) → ((l : ℕ) → l < length ps → i ≢ get_or ps l 0) → bit i (over ps y) ≡ 0
over_none ps i y none =
    sym (dot_unit i (over ps y)) ∙ dot_image (units ps) y (2 ^ i) ∙ ap (dot y) (dots_none (units ps) (2 ^ i) apart) ∙ dot_zero y
  where
    apart : (l : ℕ) → l < length (units ps) → dot (get_or (units ps) l 0) (2 ^ i) ≡ 0
    apart l h =
        let k : l < length ps = rw length-map at h in
        dot_unit i (get_or (units ps) l 0) ∙ ap (bit i) (units_at ps l k) ∙ bit_other i (get_or ps l 0) (none l k)

pub units_none : (ps : List ℕ) (x : ℕ) → dots (units ps) x ≡ 0 → (l : ℕ) → l < length ps → bit (get_or ps l 0) x ≡ 0
units_none [] x e l h = absurd (omega arith)
units_none (p ∷ ps) x e zero h = sym (dot_unit p x) ∙ dot_comm x (2 ^ p) ∙ omega (arith, dots_cons (2 ^ p) (units ps) x)
units_none (p ∷ ps) x e (suc l) h = units_none ps x (omega (arith, dots_cons (2 ^ p) (units ps) x)) l (omega arith)

-- 2^i, for the numbers i that have something, are independent
those_independent : {P : ℕ → Type 0} (P? : (i : ℕ) → Dec (P i)) (n : ℕ) → Independent (units (those P? n))
unfolding those
those_independent P? zero = independent_nil
those_independent {P} P? (suc n) = go (P? n) (those_independent P? n)
  where
    go : (d : Dec (P n)) → Independent (units (those P? n)) → Independent (units (with_if d (those P? n) n))
    go (no not) rest = rest
    go (yes p) rest =
        rw (map-append (λ (i : ℕ). 2 ^ i) (those P? n) (n ∷ []))
        (independent_snoc (units (those P? n)) (2 ^ n) rest
        (λ s. omega (arith, over_below n (those P? n) (λ l h. (those_at P? n l h).0) s.selected, s.sum)))

pub others_independent : (vs : List ℕ) → Independent (units (others vs))
unfolding others
others_independent vs = those_independent (sum_before? vs) (length vs)

pub sum_by_bits : (vs : List ℕ) (j x : ℕ) → j < length vs → x < 2 ^ length (kept_at vs (length vs))
    → ((s : ℕ) → s < length (kept_at vs (length vs)) → bit s x ≡ bit (get_or (kept_at vs (length vs)) s 0) (mask vs j)) → image (kept vs) x ≡ get_or vs j 0
unfolding kept
sum_by_bits vs j x h below same =
    let m = kept_at_more vs (λ p. 2 ^ p) h (mask_over vs j) in
    let selected : x ≡ m.selected = by_bits (length (kept_at vs (length vs))) x m.selected below (rw length-map at m.below)
    (λ s k. same s k ∙ ap (bit (get_or (kept_at vs (length vs)) s 0)) (sym m.sum) ∙ over_bit vs (length vs) s m.selected k) in
    rw selected (sym (image_over vs (kept_at vs (length vs)) m.selected) ∙ ap (image vs) m.sum ∙ mask_sum vs j)
