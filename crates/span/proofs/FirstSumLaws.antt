-- The first sum of a list, and which earlier numbers it is the sum of.
--   first_sum_law           a dependent list has one
--   first_dependent     a list that has one is dependent
--   first_only          it has no other, and no other mask selects it from earlier numbers
use Prim.Native.Nat.{ℕ, ◌^◌, ◌≤◌, ◌<◌}
use mathlib.Core.Path.{◌≡◌, sym, ap, ◌∙◌}
use mathlib.Core.List.{List}
use native.Mathlib.Omega.{arith}
use lib.ListN.{length, get_or, take, drop, take-append-drop}
use lib.Seq.{length-take-le}
use Rattle.kinds.specs.Decided.{some_below}
use Rattle.kinds.proofs.SearchLaws.{found_has, found_first, found_least}
use Rattle.bits.specs.Image.{image}
use Rattle.bits.proofs.ImageLaws.{image_prefix}
use Rattle.span.specs.Sums.{SumOf, Independent}
use Rattle.span.specs.Decisions.{sum_of?}
use Rattle.span.specs.Scan.{mask}
use Rattle.span.specs.First.{first_sum, FirstSum}
use Rattle.span.proofs.SumLaws.{independent_injective}
use Rattle.span.proofs.ScanLaws.{SumBefore, span_earlier, Is_kept_earlier, Is_kept_prefix}
use Rattle.span.proofs.MaskLaws.{mask_sum, mask_before, dependent_at}
use Rattle.span.proofs.RankLaws.{all_kept_independent}

module _ (vs : List ℕ) where
  abbrev earlier? : (i : ℕ) → Dec (SumOf (take i vs) (get_or vs i 0))
  earlier? i = sum_of? (take i vs) (get_or vs i 0)

  pub first_sum_law : ¬ Independent vs → FirstSum vs (first_sum vs) (mask vs (first_sum vs))
  unfolding first_sum
  first_sum_law dep = elim (some_below earlier? (length vs)) [
    | yes some ↦
        let i = first_sum vs in
        let (inside, sum) = found_has earlier? (length vs) some in
        record {
          inside = inside;
          earlier = mask_before vs i ((span_earlier vs i (get_or vs i 0) (omega arith)).0 sum);
          sum = mask_sum vs i;
          first = found_first earlier? (length vs);
        }
    | no none ↦ absurd (dep (all_kept_independent vs (λ i h. (Is_kept_earlier vs i (omega arith)).1 (λ s. none (i, h, s)))))
  ]

module _ {vs : List ℕ} {i m : ℕ} (f : FirstSum vs i m) where
  within : i ≤ length vs
  within = omega (arith, f.inside)

  count : length (take i vs) ≡ i
  count = length-take-le i vs within

  earlier_image : (x : ℕ) → x < 2 ^ i → image (take i vs) x ≡ image vs x
  earlier_image x h = sym (image_prefix (take i vs) (drop i vs) x (rw count h)) ∙ ap (λ (l : List ℕ). image l x) (take-append-drop i vs)

  is_sum : SumOf (take i vs) (get_or vs i 0)
  is_sum = record { selected = m; below = rw count f.earlier; sum = earlier_image m f.earlier ∙ f.sum }

  sum_before : SumBefore vs i
  sum_before = (span_earlier vs i (get_or vs i 0) within).0 is_sum

  before : Independent (take i vs)
  before =
      all_kept_independent (take i vs)
      (λ j h.
      let l : j < i = rw count at h in
      (Is_kept_prefix (take i vs) (drop i vs) j h).0 (rw (take-append-drop i vs) ((Is_kept_earlier vs j (omega (arith, within))).1 (f.first j l))))

  pub first_dependent : ¬ Independent vs
  first_dependent = dependent_at vs i f.inside sum_before

  pub first_only : (first_sum vs ≡ i) × (mask vs (first_sum vs) ≡ m)
  unfolding first_sum
  first_only =
      let at = found_least (earlier? vs) (length vs) i f.inside is_sum f.first in
      let low = mask_before vs i sum_before in
      let same = earlier_image (mask vs i) low ∙ mask_sum vs i ∙ sym f.sum ∙ sym (earlier_image m f.earlier) in
      (at, ap (mask vs) at ∙ independent_injective (take i vs) before (mask vs i) m (rw count low) (rw count f.earlier) same)
