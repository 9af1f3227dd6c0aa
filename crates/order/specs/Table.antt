-- When an order is refused (01, 'When a tool says no', 1 to 4).
--   column_too_large n C              3: a column is 2^n or more
--   dependent C               4: columns dependent. It names the first column that is a sum of earlier ones, and the mask that says of which (02, R-8)
--   column_table n Cs beside   2 to 4 of the lists of columns Cs, 2 for any of them, then 3 for any, then 4 for any, where the lengths lent beside them, and what they should be, are beside
--   order_table S d n C beside   1 to 4 of the one list C, where S says that the sizes are right, and d decides it
--   inverse_lengths n out      the length lent to the inverse beside the columns
--   inverse_table e n C out    its table: it takes no k
use Rattle.std.specs.Prelude.{ℕ, List, [], ◌∷◌, ◌++◌, map, length}
use Rattle.kinds.specs.Edition.{Edition, SizedN}
use Rattle.kinds.specs.Decisions.{sized_n?}
use Rattle.kinds.specs.First.{Reason, unless}
use Rattle.kinds.specs.Reasons.{outside, wrong_length}
use Rattle.kinds.specs.declared.Refusal.TheVariants.{TooLarge, Dependent}
use Rattle.kinds.specs.Lengths.{Wanted, exactly}
use Rattle.span.specs.Sums.{Independent}
use Rattle.span.specs.Decisions.{independent?}
use Rattle.span.specs.Scan.{mask}
use Rattle.span.specs.First.{first_sum}
use Rattle.order.specs.Order.{ColumnTooLarge}
use Rattle.order.specs.Decisions.{column_too_large?}

abbrev pub column_too_large : ℕ → List ℕ → Reason
column_too_large n C = record { refusal = TooLarge; applies = ColumnTooLarge n C; decided = column_too_large? n C }

abbrev pub dependent : List ℕ → Reason
dependent C = unless (Dependent (first_sum C) (mask C (first_sum C))) (Independent C) (independent? C)

abbrev pub column_table : ℕ → List (List ℕ) → List (ℕ × Wanted) → List Reason
column_table n Cs beside = wrong_length (map (λ C. (length C, exactly n)) Cs ++ beside) ∷ map (column_too_large n) Cs ++ map dependent Cs

abbrev pub order_table : (S : Type 0) → Dec S → ℕ → List ℕ → List (ℕ × Wanted) → List Reason
order_table S d n C beside = outside S d ∷ column_table n (C ∷ []) beside

abbrev pub inverse_lengths : ℕ → List ℕ → List (ℕ × Wanted)
inverse_lengths n out = (length out, exactly n) ∷ []

abbrev pub inverse_table : Edition → ℕ → List ℕ → List ℕ → List Reason
inverse_table e n C out = order_table (SizedN e n) (sized_n? e n) n C (inverse_lengths n out)
