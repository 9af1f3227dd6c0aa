-- Rank: how many the scan keeps. It depends on the span alone.
--   kept_all_independent, kept_sum, kept_member    what is kept of a whole list is independent, makes up each number of it, and is made of them
--   rank_le_length       a list of which each number is a sum is no shorter than the rank
--   rank_length          so no list is shorter than its rank
--   rank_le, rank_span   a smaller span has no greater rank; the same span has the same
--   kept_all_below       what is kept of numbers below a bound is below it
--   rank_width           numbers of k bits have rank at most k
--   independent_rank, rank_independent    the rank is the length exactly when the list is independent
--   rank_positions       the rank is the number of kept positions
--   others_count         with the others they are all
--   independent_all_kept, all_kept_independent    the scan keeps all exactly when the list is independent
--   columns_sum          the columns of a map are sums where its values at 1, 2, 4, .. are
--   bijection_rank       a linear bijection of k bits has rank k
--   rank_same            of maps that agree neither has the greater rank
--   rank_xor             the rank of a sum of two maps is at most the sum of the ranks
--   rank_after_inner, rank_after_outer    the rank of a composition is at most that of either map
--   rank_injective       after a map it is the rank of that map, where the second one is injective
use Prim.Native.Nat.{ℕ, zero, suc, ◌+◌, ◌^◌, ◌≤◌, ◌<◌}
use mathlib.Core.Path.{◌≡◌, refl, sym, ap, ◌∙◌}
use mathlib.Core.List.{List, ◌++◌, map}
use native.Mathlib.Nat.{le_antisymm}
use native.Mathlib.Omega.{arith}
use lib.Bits.{bit_xor}
use lib.Pow.{pow-lt}
use lib.ListN.{length, get_or, length-map, length-append}
use Rattle.bits.specs.Image.{image, AllBelow, Linear, columns}
use Rattle.bits.proofs.ImageLaws.{image_zero, linear_image, columns_length, columns_at, columns_below, columns_map}
use Rattle.kinds.proofs.SearchLaws.{those_count}
use Rattle.span.specs.Maps.{Injective, Bijection}
use Rattle.span.specs.Sums.{SumOf, Independent}
use Rattle.span.specs.Scan.{members, kept_at, kept, rank, others, units}
use Rattle.span.proofs.Counting.{injective_onto, bijection_same}
use Rattle.span.proofs.SumLaws.{length_snoc, sum_image, sum_member, sum_xor, sum_left, sum_right, sum_map, span_trans, independent_le, independent_width, independent_injective, map_independent, bijection_independent}
use Rattle.span.proofs.ScanLaws.{map_at, members_at, kept_those, kept_at_new, kept_independent, kept_at_below, scanned_sum, sum_before?, over, IsKept}
use Rattle.span.proofs.MaskLaws.{image_over, over_below, dependent_at}

pub kept_all_independent : (vs : List ℕ) → Independent (kept vs)
unfolding kept
kept_all_independent vs = kept_independent vs (length vs)

pub kept_sum : (vs : List ℕ) (j : ℕ) → j < length vs → SumOf (kept vs) (get_or vs j 0)
unfolding kept
kept_sum vs j h = scanned_sum vs h

pub kept_member : (vs : List ℕ) (l : ℕ) → l < length (kept vs) → SumOf vs (get_or (kept vs) l 0)
unfolding kept
kept_member vs l h =
    let k : l < length (kept_at vs (length vs)) = rw length-map at h in
    rw (members_at vs (kept_at vs (length vs)) l k) (sum_member vs (get_or (kept_at vs (length vs)) l 0))

pub rank_le_length : (vs ds : List ℕ) → ((j : ℕ) → j < length vs → SumOf ds (get_or vs j 0)) → rank vs ≤ length ds
unfolding rank
rank_le_length vs ds sums = independent_le (kept vs) ds (kept_all_independent vs) (λ l h. span_trans {cs = vs} sums (kept_member vs l h))

pub rank_length : (vs : List ℕ) → rank vs ≤ length vs
rank_length vs = rank_le_length vs vs (λ j h. sum_member vs j)

pub rank_le : (vs ws : List ℕ) → ((j : ℕ) → j < length vs → SumOf ws (get_or vs j 0)) → rank vs ≤ rank ws
unfolding rank
rank_le vs ws sums = rank_le_length vs (kept ws) (λ j h. span_trans {cs = ws} (kept_sum ws) (sums j h))

pub rank_span : (vs ws : List ℕ) → ((j : ℕ) → j < length vs → SumOf ws (get_or vs j 0)) → ((j : ℕ) → j < length ws → SumOf vs (get_or ws j 0))
    → rank vs ≡ rank ws
rank_span vs ws there back = le_antisymm (rank_le vs ws there) (rank_le ws vs back)

pub kept_all_below : (b : ℕ) (vs : List ℕ) → AllBelow b vs → AllBelow b (kept vs)
unfolding kept
kept_all_below b vs below l h =
    let k : l < length (kept_at vs (length vs)) = rw length-map at h in
    rw (members_at vs (kept_at vs (length vs)) l k) (below (get_or (kept_at vs (length vs)) l 0) (kept_at_below vs (length vs) l k))

pub rank_width : (k : ℕ) (vs : List ℕ) → AllBelow (2 ^ k) vs → rank vs ≤ k
unfolding rank
rank_width k vs b = independent_width k (kept vs) (kept_all_below (2 ^ k) vs b) (kept_all_independent vs)

pub independent_rank : (vs : List ℕ) → Independent vs → rank vs ≡ length vs
unfolding rank
independent_rank vs ind =
    le_antisymm (rank_length vs) (independent_le vs (kept vs) ind (kept_sum vs))

pub rank_independent : (vs : List ℕ) → rank vs ≡ length vs → Independent vs
unfolding rank kept
rank_independent vs full m h e =
    let found = injective_onto (λ s k. over_below (length vs) ps (kept_at_below vs (length vs)) s) over_injective m h in
    let s = found.0 in
    let none : image (members vs ps) s ≡ 0 = sym (image_over vs ps s) ∙ ap (image vs) found.2 ∙ e in
    let zero_mask : s ≡ 0 = kept_independent vs (length vs) s (rw full found.1) none in
    sym found.2 ∙ ap (over ps) zero_mask ∙ image_zero (units ps)
  where
    ps : List ℕ
    ps = kept_at vs (length vs)

    over_injective : Injective (over ps) (2 ^ length vs)
    over_injective s t k l same =
        independent_injective (members vs ps) (kept_independent vs (length vs)) s t (rw full k) (rw full l)
        (sym (image_over vs ps s) ∙ ap (image vs) same ∙ image_over vs ps t)

pub rank_positions : (vs : List ℕ) → rank vs ≡ length (kept_at vs (length vs))
unfolding rank kept
rank_positions vs = length-map (kept_at vs (length vs)) (λ p. get_or vs p 0)

pub others_count : (vs : List ℕ) → rank vs + length (others vs) ≡ length vs
unfolding others
others_count vs = omega (arith, rank_positions vs, ap length (kept_those vs (length vs)), those_count (sum_before? vs) (length vs))

pub independent_all_kept : (vs : List ℕ) → Independent vs → (i : ℕ) → i < length vs → IsKept vs i
independent_all_kept vs ind i h s = dependent_at vs i h s ind

pub all_kept_independent : (vs : List ℕ) → ((i : ℕ) → i < length vs → IsKept vs i) → Independent vs
unfolding kept_at
all_kept_independent vs all = rank_independent vs (rank_positions vs ∙ all_places (length vs) (omega arith))
  where
    all_places : (i : ℕ) → i ≤ length vs → length (kept_at vs i) ≡ i
    all_places zero h = refl
    all_places (suc i) h =
        ap length (kept_at_new vs i (all i h)) ∙ length_snoc (kept_at vs i) i ∙ ap suc (all_places i (omega arith))

-- ---- maps, by their columns

pub columns_sum : (n : ℕ) (f : ℕ → ℕ) {ds : List ℕ} → ((j : ℕ) → j < n → SumOf ds (f (2 ^ j)))
    → (j : ℕ) → j < length (columns n f) → SumOf ds (get_or (columns n f) j 0)
columns_sum n f sums j h = let k : j < n = omega (arith, columns_length n f) in rw (columns_at n f j k) (sums j k)

value_sum : (n : ℕ) (f : ℕ → ℕ) (j : ℕ) → j < n → SumOf (kept (columns n f)) (f (2 ^ j))
value_sum n f j h = rw (columns_at n f j h) at (kept_sum (columns n f) j (omega (arith, columns_length n f)))

pub bijection_rank : (k : ℕ) (f : ℕ → ℕ) → Linear f → Bijection f (2 ^ k) → rank (columns k f) ≡ k
bijection_rank k f linear b =
    independent_rank (columns k f)
    (bijection_independent k (columns k f) (columns_length k f) (bijection_same (λ i h. sym (linear_image k f linear i h)) b))
    ∙ columns_length k f

pub rank_same : (k : ℕ) (f g : ℕ → ℕ) → ((p : ℕ) → p < 2 ^ k → f p ≡ g p) → rank (columns k f) ≤ rank (columns k g)
rank_same k f g same =
    rank_le (columns k f) (columns k g)
    (columns_sum k f (λ j h. rw (same (2 ^ j) (pow-lt h) ∙ sym (columns_at k g j h)) (sum_member (columns k g) j)))

pub rank_xor : (n : ℕ) (f g : ℕ → ℕ) → rank (columns n (λ x. bit_xor (f x) (g x))) ≤ rank (columns n f) + rank (columns n g)
unfolding rank
rank_xor n f g =
    rw (← length-append (kept (columns n f)) (kept (columns n g)))
    (rank_le_length (columns n (λ x. bit_xor (f x) (g x))) (kept (columns n f) ++ kept (columns n g))
    (columns_sum n (λ x. bit_xor (f x) (g x))
    (λ j h. sum_xor (sum_left (kept (columns n g)) (value_sum n f j h)) (sum_right (kept (columns n f)) (value_sum n g j h)))))

pub rank_after_inner : (n : ℕ) (f g : ℕ → ℕ) → Linear g → rank (columns n (λ x. g (f x))) ≤ rank (columns n f)
unfolding rank
rank_after_inner n f g linear =
    rw (← length-map (kept (columns n f)) g)
    (rank_le_length (columns n (λ x. g (f x))) (map g (kept (columns n f)))
    (columns_sum n (λ x. g (f x)) (λ j h. sum_map g linear (value_sum n f j h))))

pub rank_after_outer : (n m : ℕ) (f g : ℕ → ℕ) → Linear g → ((j : ℕ) → j < n → f (2 ^ j) < 2 ^ m)
    → rank (columns n (λ x. g (f x))) ≤ rank (columns m g)
rank_after_outer n m f g linear into =
    rank_le (columns n (λ x. g (f x))) (columns m g)
    (columns_sum n (λ x. g (f x))
    (λ j h. rw (← linear_image m g linear (f (2 ^ j)) (into j h)) at (sum_image (columns m g) (f (2 ^ j)))))

pub rank_injective : (n m : ℕ) (f g : ℕ → ℕ) → Linear g → Injective g (2 ^ m) → ((j : ℕ) → j < n → f (2 ^ j) < 2 ^ m)
    → rank (columns n (λ x. g (f x))) ≡ rank (columns n f)
unfolding rank
rank_injective n m f g linear injective into =
    le_antisymm (rank_after_inner n f g linear)
    (rw (← length-map (kept F) g)
    (independent_le (map g (kept F)) (kept G)
    (map_independent m g linear injective (kept F) (kept_all_below (2 ^ m) F (columns_below n (2 ^ m) f into)) (kept_all_independent F))
    value))
  where
    F : List ℕ
    F = columns n f

    G : List ℕ
    G = columns n (λ x. g (f x))

    value : (l : ℕ) → l < length (map g (kept F)) → SumOf (kept G) (get_or (map g (kept F)) l 0)
    value l h =
        let k : l < length (kept F) = rw length-map at h in
        rw (map_at g (kept F) l k) (span_trans {cs = G} (kept_sum G) (rw (columns_map n f g) at (sum_map g linear (kept_member F l k))))
