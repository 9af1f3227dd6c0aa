-- What is paired, and the pairs that are left, are all of them.
use Rattle.std.proofs.Common.{◌≡◌, ◌≤◌, ◌++◌, length}
use Rattle.kinds.specs.Edition.{edition1}
use Rattle.lay.specs.Staged.{pairs}
use Rattle.lay.proofs.pair_up.Given as goal

abbrev pub invariant-loop-direction : goal.invariant-loop-direction
invariant-loop-direction l = record {
  few : length l.stages.items ≤ edition1.most_stages;
  left : l.stages.items ++ pairs l.direction-iterator.a.rest.now l.direction-iterator.b.rest.now ≡ pairs l.directions l.controls;
}
