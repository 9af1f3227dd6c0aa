-- What the planner promises.
--   plan_table e n k C s     "Planner: 1 to 4"
--   out_of_range n k ss       5: a stage of ss is out of its range, and so no sheet that has it keeps the layout
--   with_table e n k ss C s  1 to 4, and this
--   PlansWith e n k ss C s s' r   the sheet with the read stages ss: r is the lowest of 1 to 5 that applies; done, s' is the sheet with these; refused, s' is s
--   Plans e n k C s s' r    the planner: r is the lowest of 1 to 4 that applies; done, s' is planned for the order; refused, s' is s. s' is what the lent sheet s holds afterwards
use Rattle.std.specs.Prelude.{ℕ, ◌^◌, ◌≡◌, List, [], ◌∷◌, ◌++◌, Result}
use Rattle.kinds.specs.Answers.{Answers}
use Rattle.kinds.specs.Edition.{Edition, Sized}
use Rattle.kinds.specs.Decisions.{sized?}
use Rattle.kinds.specs.Frame.{tick_bits}
use Rattle.kinds.specs.First.{Reason, unless}
use Rattle.kinds.specs.Refusal.{said}
use Rattle.kinds.specs.declared.Refusal.{Refusal}
use Rattle.kinds.specs.declared.Refusal.TheVariants.{Layout}
use Rattle.order.specs.Table.{order_table}
use Rattle.sheet.specs.declared.Stage.{Stage}
use Rattle.sheet.specs.Decisions.{stage_in_range?, each_stage?}
use Rattle.sheet.specs.Table.{sheet_lengths}
use Rattle.construction.specs.Planned.{StagesInRange, sheet_with, IsPlanned}

abbrev pub plan_table : Edition → ℕ → ℕ → List ℕ → List ℕ → List Reason
plan_table e n k C s = order_table (Sized e n k) (sized? e n k) n C (sheet_lengths e s)

abbrev pub out_of_range : ℕ → ℕ → List Stage → Reason
out_of_range n k ss = unless Layout (StagesInRange n k ss) (each_stage? (stage_in_range? (2 ^ k) (2 ^ tick_bits n k)) ss)

abbrev pub with_table : Edition → ℕ → ℕ → List Stage → List ℕ → List ℕ → List Reason
with_table e n k ss C s = plan_table e n k C s ++ (out_of_range n k ss ∷ [])

abbrev pub PlansWith : Edition → ℕ → ℕ → List Stage → List ℕ → List ℕ → List ℕ → Result Unit Refusal → Type 0
PlansWith e n k ss C s s' r = Answers (with_table e n k ss C s) (said r) (s' ≡ sheet_with e n k ss C) (s' ≡ s)

abbrev pub Plans : Edition → ℕ → ℕ → List ℕ → List ℕ → List ℕ → Result Unit Refusal → Type 0
Plans e n k C s s' r = Answers (plan_table e n k C s) (said r) (IsPlanned e n k C s') (s' ≡ s)
