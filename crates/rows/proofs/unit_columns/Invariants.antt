-- The columns below j stand in the array; below a they are 0.
use Rattle.std.proofs.Common.{ℕ, ◌/◌, ◌^◌, min}
use Rattle.bits.specs.Image.{columns}
use Rattle.bits.proofs.FillLaws.{Filled}
use Rattle.bits.specs.Padded.{array_width}
use Rattle.rows.proofs.unit_columns.Given as goal

abbrev pub shifted : ℕ → ℕ → ℕ
shifted a x = x / 2 ^ a

abbrev pub invariant-loop-j : goal.invariant-loop-j
invariant-loop-j l = Filled array_width (columns (min l.b array_width) (shifted l.a)) l.columns l.j
