-- The stages of the columns kept among the first j stand, as many as a side may have.
use Rattle.std.proofs.Common.{ℕ, ◌≤◌, ◌≡◌, List, map, length, take}
use Rattle.kinds.specs.Edition.{edition1}
use Rattle.bits.specs.Padded.{array_width}
use Rattle.span.specs.Scan.{kept_at, masks}
use Rattle.sheet.specs.declared.Stage.{Stage}
use Rattle.switches.specs.Written.{kept_stage}
use Rattle.plan.proofs.chosen.kept_stages.Given as goal

pub record Keeping (F ms : List ℕ) (ss : List Stage) (j : ℕ) : Type 0 where
  pub room : length F ≤ array_width
  pub masked : ms ≡ masks F
  pub kept : ss ≡ take edition1.most_stages (map (kept_stage F) (kept_at F j))

abbrev pub invariant-loop-j : goal.invariant-loop-j
invariant-loop-j l = Keeping l.columns l.masks l.stages.items l.j
