-- The first i rows stand in the array.
use Rattle.std.proofs.Common.{min, take}
use Rattle.span.specs.Rows.{rows as rows_in}
use Rattle.bits.proofs.FillLaws.{Filled}
use Rattle.bits.specs.Padded.{array_width}
use Rattle.rows.proofs.rows_of.Given as goal

abbrev pub invariant-loop-i : goal.invariant-loop-i
invariant-loop-i l = Filled array_width (rows_in (min l.count array_width) (take array_width l.columns)) l.rows l.i
