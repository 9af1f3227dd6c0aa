-- The numbers come from the last to the first: the row so far is that of the numbers that passed.
use Rattle.std.proofs.Common.{ℕ, ◌≡◌, List, ◌++◌, take}
use Rattle.std.specs.Slice.Iter.{iter_rest}
use Rattle.std.specs.Iterator.Adapters.{rev_source}
use Rattle.bits.specs.Padded.{array_width}
use Rattle.span.specs.Rows.{row as row_in}
use Rattle.rows.proofs.row.Given as goal

pub record Crossed (numbers : List ℕ) (i row : ℕ) (left : List ℕ) : Type 0 where
  pub passed : List ℕ
  pub whole : numbers ≡ left ++ passed
  pub so_far : row ≡ row_in passed i

abbrev pub invariant-loop-number : goal.invariant-loop-number
invariant-loop-number l = Crossed (take array_width l.numbers) l.i l.row (iter_rest (rev_source l.number-iterator))
