-- Decisions of what this crate's meanings state. Each carries its proof, so none has to be read.
--   column_too_large? n C      whether a column of C is 2^n or more
use Rattle.std.specs.Prelude.{ℕ, ◌^◌, List, length, get_or}
use Rattle.std.proofs.Math.Decide.{dec_le}
use Rattle.kinds.specs.Decided.{some_below}
use Rattle.order.specs.Order.{ColumnTooLarge}

abbrev pub column_too_large? : (n : ℕ) (C : List ℕ) → Dec (ColumnTooLarge n C)
column_too_large? n C = some_below (λ j. dec_le (2 ^ n) (get_or C j 0)) (length C)
