-- Refusals 1 and 2, which every tool has.
--   outside S d         1: n or k outside the sizes, where S says that they are within, and d decides it
--   wrong_length l       2: a lent length is wrong
use Rattle.std.specs.Prelude.{ℕ, List}
use Rattle.kinds.specs.Decisions.{right_lengths?}
use Rattle.kinds.specs.First.{Reason, unless}
use Rattle.kinds.specs.declared.Refusal.TheVariants.{Sizes, Length}
use Rattle.kinds.specs.Lengths.{Wanted, RightLengths}

abbrev pub outside : (S : Type 0) → Dec S → Reason
outside S d = unless Sizes S d

abbrev pub wrong_length : List (ℕ × Wanted) → Reason
wrong_length l = unless Length (RightLengths l) (right_lengths? l)
