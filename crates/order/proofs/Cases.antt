-- The meanings on cases of 01. At every n of the sizes bit reversal is undone by itself; from n 3 on Gray code is not: the last column comes back as
-- 2^(n-1) + 2^(n-3), where it should be 2^(n-1). At n 3 it is undone by 1 3 7.
-- Columns 4 4 at n 2 give 3, columns 1 1 give 4; n 0, n 11 and n 4294967295 give 1, and so do k 0, k 6 and n 2 with k 3; a column too few, and an output too short,
-- give 2, whatever the columns are. 4 names the first column that is a sum of earlier ones, and which: 02's column 2 from 1, a sum of two, two sums of which the first counts, a column of zeros.
use mathlib.Core.Path.{◌≡◌, refl}
use mathlib.Core.List.{List, [], ◌∷◌, map}
use mathlib.Core.Option.{some}
use Prim.Native.Nat.{ℕ, ◌+◌, ◌-◌, ◌/◌, ◌^◌}
use native.Mathlib.Decide.{ℕ_discrete, dec_le}
use lib.Bits.{bit_xor}
use lib.ListN.{get_or}
use Rattle.kinds.specs.Edition.{edition1, Sized}
use Rattle.kinds.specs.Decisions.{sized_n?, sized?, right_lengths?}
use Rattle.kinds.specs.Refusal.{given}
use Rattle.kinds.specs.First.{first_of}
use Rattle.kinds.specs.declared.Refusal.TheVariants.{Dependent}
use Rattle.bits.specs.Image.{image, columns}
use Rattle.kinds.specs.Decided.{some_below}
use Rattle.span.specs.Decisions.{independent?}
use Rattle.span.specs.Scan.{mask}
use Rattle.span.specs.First.{first_sum}
use Rattle.order.specs.Order.{place}
use Rattle.order.specs.Table.{column_table, order_table, inverse_table}

abbrev reversal : ℕ → List ℕ
reversal n = columns n (λ u. 2 ^ (n - 1) / u)

abbrev gray : ℕ → List ℕ
gray n = columns n (λ u. bit_xor u (u / 2))

abbrev identity : ℕ → List ℕ
identity n = columns n (λ u. u)

-- the columns of D after C
abbrev after : List ℕ → List ℕ → List ℕ
after D C = map (place D) C

abbrev from_three : List ℕ
from_three = 3 ∷ 4 ∷ 5 ∷ 6 ∷ 7 ∷ 8 ∷ 9 ∷ 10 ∷ []

reversal_hides : map (λ n. after (reversal n) (reversal n)) (1 ∷ 2 ∷ from_three) ≡ map identity (1 ∷ 2 ∷ from_three)
unfolding image columns
reversal_hides = refl

gray_shows : map (λ n. get_or (after (gray n) (gray n)) (n - 1) 0) from_three ≡ map (λ n. 2 ^ (n - 1) + 2 ^ (n - 3)) from_three
unfolding image columns
gray_shows = refl

gray_undone : (gray 3 ≡ 1 ∷ 3 ∷ 6 ∷ []) × (after (1 ∷ 3 ∷ 7 ∷ []) (gray 3) ≡ identity 3) × (after (gray 3) (1 ∷ 3 ∷ 7 ∷ []) ≡ identity 3)
unfolding image columns
gray_undone = (refl, refl, refl)

refused : map (λ (n, C, out). given (first_of (inverse_table edition1 n C out))) (
    (2, 4 ∷ 4 ∷ [], 0 ∷ 0 ∷ [])
    ∷ (2, 1 ∷ 1 ∷ [], 0 ∷ 0 ∷ [])
    ∷ (2, 2 ∷ 1 ∷ [], 0 ∷ 0 ∷ [])
    ∷ (2, 4 ∷ [], 0 ∷ 0 ∷ [])
    ∷ (2, 4 ∷ 4 ∷ [], 0 ∷ [])
    ∷ (0, [], [])
    ∷ (11, [], [])
    ∷ (4294967295, [], [])
    ∷ []
    ) ≡ 3 ∷ 4 ∷ 0 ∷ 2 ∷ 2 ∷ 1 ∷ 1 ∷ 1 ∷ []
unfolding image first_of sized_n? dec_le right_lengths? ℕ_discrete some_below independent?
refused = refl

named : map (λ C. first_of (inverse_table edition1 3 C C)) ((1 ∷ 2 ∷ 1 ∷ []) ∷ (1 ∷ 2 ∷ 3 ∷ []) ∷ (5 ∷ 5 ∷ 5 ∷ []) ∷ (0 ∷ 1 ∷ 1 ∷ []) ∷ [])
    ≡ some (Dependent 2 1) ∷ some (Dependent 2 3) ∷ some (Dependent 1 1) ∷ some (Dependent 0 0) ∷ []
unfolding image first_of sized_n? dec_le right_lengths? ℕ_discrete some_below independent? first_sum mask
named = refl

refused_with_k : map (λ (n, k). given (first_of (order_table (Sized edition1 n k) (sized? edition1 n k) n [] []))) (
    (10, 5) ∷ (10, 6) ∷ (10, 0) ∷ (2, 3) ∷ (11, 5) ∷ []
    ) ≡ 2 ∷ 1 ∷ 1 ∷ 1 ∷ 1 ∷ []
unfolding image first_of sized_n? sized? dec_le right_lengths? ℕ_discrete some_below independent?
refused_with_k = refl

-- of two lists: 2 for either, then 3 for either, then 4 for either
refused_lists : map (λ (C, D). given (first_of (column_table 2 (C ∷ D ∷ []) []))) (
    (1 ∷ 2 ∷ [], 2 ∷ 1 ∷ []) ∷ (4 ∷ 4 ∷ [], 1 ∷ []) ∷ (1 ∷ 1 ∷ [], 1 ∷ 4 ∷ []) ∷ (1 ∷ 2 ∷ [], 1 ∷ 1 ∷ []) ∷ []
    ) ≡ 0 ∷ 2 ∷ 3 ∷ 4 ∷ []
unfolding image first_of dec_le right_lengths? ℕ_discrete some_below independent?
refused_lists = refl
