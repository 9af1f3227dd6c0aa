-- The stages before place s stand.
use Rattle.std.proofs.Common.{ℕ, ◌≡◌, ◌<◌, ◌/◌, List, length, get_or}
use Rattle.sheet.specs.Sheet.{stage_at}
use Rattle.sheet.specs.declared.Stage.{Stage}
use Rattle.sheet.proofs.stages_of.Given as goal

abbrev pub nothing : Stage
nothing = record { direction = 0; control = 0 }

pub record Reading (l : List ℕ) (ss : List Stage) (s : ℕ) : Type 0 where
  pub size : length ss ≡ 8
  pub each : (i : ℕ) → i < s → i < length l / 2 → get_or ss i nothing ≡ stage_at l i

abbrev pub invariant-loop-s : goal.invariant-loop-s
invariant-loop-s l = Reading l.places l.stages l.s
