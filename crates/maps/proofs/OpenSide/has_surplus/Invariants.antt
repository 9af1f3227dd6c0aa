-- The numbers so far are those of the first stages.
use Rattle.std.proofs.Common.{◌≡◌, take}
use Rattle.switches.proofs.StageLaws.{directions, controls}
use Rattle.maps.proofs.OpenSide.has_surplus.Given as goal

abbrev pub invariant-loop-stage : goal.invariant-loop-stage
invariant-loop-stage l = record {
  so_far : l.directions.items ≡ directions (take l.stage-index l.stage-items);
  beside : l.controls.items ≡ controls (take l.stage-index l.stage-items);
}
