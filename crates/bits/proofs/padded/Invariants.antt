-- The first j numbers stand, and zeros beyond the last.
use Rattle.std.proofs.Common.{take}
use Rattle.bits.specs.Padded.{padded_to}
use Rattle.bits.proofs.FillLaws.{Filled}
use Rattle.bits.proofs.padded.Given as goal

abbrev pub invariant-loop-j : goal.invariant-loop-j
invariant-loop-j g l = Filled g.row.N (padded_to g.row.N (take g.row.N l.numbers)) l.places l.j
