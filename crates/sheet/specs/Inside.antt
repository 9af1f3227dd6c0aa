-- What the functions inside the crate promise one another.
--   Whole e l             l is all places of a side
--   IsStageAt l s r       r is stage s of the stage places l; where they have no two places for it, both of its numbers are 0
--   most_stages_in m l    how many of m stages the stage places l have places for, of those that a side may have
use Rattle.std.specs.Prelude.{ℕ, ◌/◌, ◌<◌, ◌≤◌, ◌≡◌, min, List, length}
use Rattle.kinds.specs.Edition.{Edition, edition1, side_places}
use Rattle.sheet.specs.Sheet.{stage_at}
use Rattle.sheet.specs.declared.Stage.{Stage}

pub record Whole (e : Edition) (l : List ℕ) : Type 0 where
  pub places : length l ≡ side_places e

pub record IsStageAt (l : List ℕ) (s : ℕ) (r : Stage) : Type 0 where
  pub there : s < length l / 2 → r ≡ stage_at l s
  pub beyond : length l / 2 ≤ s → r ≡ record { direction = 0; control = 0 }

abbrev pub most_stages_in : ℕ → List ℕ → ℕ
most_stages_in m l = min (min m (length l / 2)) edition1.most_stages
