-- The numbers from the index-th on are left to write, and the newline.
use Rattle.std.proofs.Common.{List, ℕ, drop}
use Rattle.lines.specs.Line.{line_end}
use Rattle.lines.proofs.WriteLaws.{Left}
use Rattle.lines.proofs.put_numbers.Given as goal

pub record Writing (ns : List ℕ) (at : ℕ) (text₀ text : List ℕ) (place i : ℕ) : Type 0 where
  pub left : Left (line_end ns) at text₀ (line_end (drop i ns)) place text

abbrev pub invariant-loop-number : goal.invariant-loop-number
invariant-loop-number l = Writing l.numbers l.at l.initial.text l.text l.place l.number-index
