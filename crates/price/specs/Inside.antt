-- What the functions inside the crate promise one another.
--   Controlled m l    l has places for m stages, which are no more than a sheet of edition 1 may have, and each has a control that is not 0
use Rattle.std.specs.Prelude.{ℕ, ◌*◌, ◌≤◌, List, length}
use Rattle.kinds.specs.Edition.{edition1}
use Rattle.sheet.specs.Sheet.{stages_in}
use Rattle.sheet.specs.Layout.{EachStage}

pub record Controlled (m : ℕ) (l : List ℕ) : Type 0 where
  pub room : 2 * m ≤ length l
  pub few : m ≤ edition1.most_stages
  pub controls : EachStage (λ s. 1 ≤ s.control) (stages_in m l)
