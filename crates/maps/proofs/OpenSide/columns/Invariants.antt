-- For whichever side is shown, the first j columns are those of its map, and zeros beyond its last.
use Rattle.std.proofs.Common.{ℕ, List}
use Rattle.sheet.specs.Sheet.{Side}
use Rattle.bits.specs.Padded.{array_width, padded}
use Rattle.bits.proofs.FillLaws.{Filled}
use Rattle.switches.specs.Cells.{cell_columns}
use Rattle.maps.specs.Opened.{Shows}
use Rattle.maps.specs.declared.OpenSide.{OpenSide}
use Rattle.maps.proofs.OpenSide.columns.Given as goal

pub record Filling (o : OpenSide) (r : List ℕ) (j : ℕ) : Type 0 where
  pub each : (n k : ℕ) (S : Side) → Shows n k o S → Filled array_width (padded (cell_columns n k S)) r j

abbrev pub invariant-loop-j : goal.invariant-loop-j
invariant-loop-j l = Filling l.self l.column-items l.j
