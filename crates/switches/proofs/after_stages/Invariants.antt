-- The stages that are left take the bank so far to the bank after all.
use Rattle.std.proofs.Common.{◌≡◌, drop}
use Rattle.switches.specs.Stages.{bank_after}
use Rattle.switches.proofs.after_stages.Given as goal

abbrev pub invariant-loop-stage : goal.invariant-loop-stage
invariant-loop-stage l = bank_after (drop l.stage-index l.stages) l.tick.0 l.after ≡ bank_after l.stages l.tick.0 l.fn.bank.0
