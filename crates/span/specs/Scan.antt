-- The scan of a list, in order from the first number: keep a number that is no sum of kept ones (01, 'The planner's choices').
--   members vs ps        the numbers of vs at the positions ps
--   kept_at vs i          the positions kept among the first i numbers of vs, ascending
--   kept vs              the numbers kept
--   rank vs              how many are kept
--   others vs            the positions of those that are not kept, ascending
--   units ps             2^p for each position p of ps
--   mask vs i            which kept numbers, by their positions in vs, have number i of vs as their sum; a kept one is its own: the m, of i + 1 bits, that
--                        selects numbers of vs whose sum is number i, and whose set bits are kept positions. There is one (law `mask_unique`)
--   masks vs             the masks of all numbers of vs
use Rattle.std.specs.Prelude.{ℕ, zero, suc, ◌^◌, List, [], map, length, get_or}
use Rattle.std.proofs.Math.Decide.{ℕ_discrete}
use Rattle.kinds.specs.Decided.{both, opposite, some_below}
use Rattle.kinds.specs.Frame.{in_order}
use Rattle.kinds.specs.Search.{found, with_if, those}
use Rattle.bits.specs.Image.{image}
use Rattle.span.specs.Decisions.{sum_of?}

abbrev pub members : List ℕ → List ℕ → List ℕ
members vs ps = map (λ p. get_or vs p 0) ps

unfoldable pub kept_at : List ℕ → ℕ → List ℕ
unfolding sum_of?
kept_at vs zero = []
kept_at vs (suc i) = with_if (opposite (sum_of? (members vs (kept_at vs i)) (get_or vs i 0))) (kept_at vs i) i

unfoldable pub kept : List ℕ → List ℕ
unfolding kept_at
kept vs = members vs (kept_at vs (length vs))

unfoldable pub rank : List ℕ → ℕ
unfolding kept
rank vs = length (kept vs)

unfoldable pub others : List ℕ → List ℕ
unfolding those kept_at sum_of?
others vs = those (λ i. sum_of? (members vs (kept_at vs i)) (get_or vs i 0)) (length vs)

abbrev pub units : List ℕ → List ℕ
units ps = map (λ p. 2 ^ p) ps

unfoldable pub mask : List ℕ → ℕ → ℕ
unfolding kept_at sum_of? some_below
mask vs i = found (some_below (λ m. both (ℕ_discrete (image vs m) (get_or vs i 0)) (sum_of? (units (kept_at vs (suc i))) m)) (2 ^ suc i))

unfoldable pub masks : List ℕ → List ℕ
unfolding in_order mask
masks vs = in_order (length vs) (mask vs)
