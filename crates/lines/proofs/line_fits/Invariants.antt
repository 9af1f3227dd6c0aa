-- The line up to the index-th number has room, and ends at `end`.
use Rattle.std.proofs.Common.{List, ℕ, ◌≡◌, ◌+◌, ◌≤◌, length, drop}
use Rattle.lines.specs.Line.{line_end}
use Rattle.lines.proofs.line_fits.Given as goal

pub record Measures (places at name : ℕ) (ns : List ℕ) (end i : ℕ) : Type 0 where
  pub within : end ≤ places
  pub left : end + length (line_end (drop i ns)) ≡ at + (name + length (line_end ns))

abbrev pub invariant-loop-number : goal.invariant-loop-number
invariant-loop-number l = Measures l.places l.at l.name l.numbers l.end l.number-index
