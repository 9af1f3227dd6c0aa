-- Every stage passed is in range.
use Rattle.std.proofs.Common.{ℕ, ◌<◌}
use Rattle.sheet.specs.Sheet.{stage_at}
use Rattle.sheet.specs.Layout.{StageInRange}
use Rattle.sheet.proofs.stages_formed.Given as goal

abbrev pub invariant-loop-s : goal.invariant-loop-s
invariant-loop-s l = (i : ℕ) → i < l.s → StageInRange l.ports l.ticks (stage_at l.places i)
