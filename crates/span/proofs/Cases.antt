-- The meanings on small cases: the rows that 01's planner scans for two of its frames, a list with masks, and first sums.
use Prim.Native.Nat.{ℕ}
use mathlib.Core.Path.{◌≡◌, refl}
use mathlib.Core.List.{List, [], ◌∷◌, ◌++◌, map}
use native.Mathlib.Decide.{ℕ_discrete}
use lib.ListN.{length}
use Rattle.bits.specs.Image.{image}
use Rattle.span.specs.Scan.{kept_at, mask}
use Rattle.span.specs.First.{first_sum}
use Rattle.span.specs.Rows.{rows}

-- the rows of P1, and then those of P3
scanned : List ℕ → List ℕ
scanned vs = kept_at vs (length vs)

-- n 3, k 1, columns 4 2 1: row 0 of P1 is not kept, row 1 of P3 is: the read stage is (1,2).
-- n 4, k 2, columns 2 4 8 1: row 0 of P1 is not kept, row 0 of P3 is: the read stage is (1,1).
kept_rows : map scanned ((rows 1 (0 ∷ []) ++ rows 2 (2 ∷ [])) ∷ (rows 2 (2 ∷ 0 ∷ []) ++ rows 2 (0 ∷ 1 ∷ [])) ∷ [])
    ≡ (2 ∷ []) ∷ (1 ∷ 2 ∷ []) ∷ []
unfolding scanned kept_at image ℕ_discrete rows
kept_rows = refl

-- 6 is 3 and 5, 7 is 3 and 4; 0 is the empty sum
masks : map (mask (3 ∷ 5 ∷ 6 ∷ 0 ∷ 4 ∷ 7 ∷ [])) (0 ∷ 1 ∷ 2 ∷ 3 ∷ 4 ∷ 5 ∷ []) ≡ 1 ∷ 2 ∷ 3 ∷ 0 ∷ 16 ∷ 17 ∷ []
unfolding mask image ℕ_discrete
masks = refl

-- 6 is 3 and 5, though 0 comes after it; 0 alone is a sum, of nothing; 5 5 5 has two
firsts : map first_sum ((3 ∷ 5 ∷ 6 ∷ 0 ∷ []) ∷ (1 ∷ 0 ∷ 1 ∷ []) ∷ (5 ∷ 5 ∷ 5 ∷ []) ∷ (0 ∷ []) ∷ []) ≡ 2 ∷ 1 ∷ 1 ∷ 0 ∷ []
unfolding first_sum image ℕ_discrete
firsts = refl
