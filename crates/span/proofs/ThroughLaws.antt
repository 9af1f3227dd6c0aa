-- A map by way of l bits: the rows R make l bits of a number, and the columns D make its value of these.
--   through_columns    its rank is at most that of the columns
--   through_full       it is l exactly when the columns are independent and the rows are
use Prim.Native.Nat.{ℕ, ◌^◌, ◌≤◌}
use mathlib.Core.Path.{◌≡◌, sym, ap, ◌∙◌}
use mathlib.Core.List.{List}
use mathlib.Core.Logic.{◌↔◌}
use native.Mathlib.Nat.{le_antisymm, le_trans, le_of_eq}
use native.Mathlib.Omega.{arith}
use lib.ListN.{length}
use Rattle.bits.specs.Image.{image, AllBelow, columns}
use Rattle.bits.proofs.ImageLaws.{image_xor}
use Rattle.span.specs.Sums.{Independent}
use Rattle.span.specs.Scan.{rank}
use Rattle.span.specs.Rows.{dots}
use Rattle.span.proofs.SumLaws.{sum_image, independent_injective}
use Rattle.span.proofs.RankLaws.{rank_le, rank_length, independent_rank, rank_independent, columns_sum, rank_after_inner, rank_injective}
use Rattle.span.proofs.RowLaws.{dots_lt, rows_columns}
use Rattle.span.proofs.RowRankLaws.{rank_rows}

module _ (t : ℕ) (D R : List ℕ) where
  abbrev through : ℕ → ℕ
  through x = image D (dots R x)

  pub through_columns : rank (columns t through) ≤ rank D
  through_columns = rank_le (columns t through) D (columns_sum t through (λ j h. sum_image D (dots R (2 ^ j))))

  module _ (below : AllBelow (2 ^ t) R) where
    dots_rank : rank (columns t (dots R)) ≡ rank R
    dots_rank = ap rank (sym (rows_columns t R)) ∙ rank_rows t R below

    through_rows : rank (columns t through) ≤ rank R
    through_rows = le_trans (rank_after_inner t (dots R) (image D) (image_xor D)) (le_of_eq dots_rank)

    pub through_full : (l : ℕ) → length D ≡ l → length R ≡ l → rank (columns t through) ≡ l ↔ (Independent D × Independent R)
    through_full l D_length R_length = (
      λ full. (
        rank_independent D (le_antisymm (rank_length D) (omega (arith, through_columns))),
        rank_independent R (le_antisymm (rank_length R) (omega (arith, through_rows))),
      ),
      λ (D_independent, R_independent).
          rank_injective t l (dots R) (image D) (image_xor D) (rw D_length at (independent_injective D D_independent)) (λ j h. rw R_length at (dots_lt R (2 ^ j)))
          ∙ dots_rank
          ∙ independent_rank R R_independent
          ∙ R_length,
    )
