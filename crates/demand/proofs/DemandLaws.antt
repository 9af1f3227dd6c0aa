-- The third demand.
--   demand_held       it holds of every edition with room on a side for as many stages as its greatest k
--   third_demand      so it holds of 01's
--   passed_tool       passed is the same as right by what the run as a tool answers
--   demand_fewest     by it no read stages that leave an order a wiring with no two ports to one bank are fewer than the planner's
use Prim.Native.Nat.{ℕ, ◌≤◌}
use mathlib.Core.Path.{◌≡◌, refl, ap}
use mathlib.Core.List.{List}
use mathlib.Core.Logic.Iff
use mathlib.Core.Logic.{◌↔◌}
use mathlib.Core.Option.{Option, none, some}
use native.Mathlib.Omega.{arith}
use lib.ListN.{length}
use Rattle.std.specs.Prelude.{Result, Ok, Err, IsOk}
use Rattle.kinds.specs.Edition.{Edition, edition1, Sized, sheet_places}
use Rattle.kinds.specs.First.{first_of}
use Rattle.kinds.specs.Refusal.{said}
use Rattle.kinds.specs.declared.Refusal.{Refusal}
use Rattle.order.specs.Order.{Order}
use Rattle.sheet.specs.Sheet.{Side, read_side}
use Rattle.sheet.specs.declared.Stage.{Stage}
use Rattle.sheet.specs.Layout.{WellFormed}
use Rattle.caller.specs.AsTool.{RightAsTool}
use Rattle.caller.proofs.ToolLaws.{tool_exact}
use Rattle.construction.specs.Planned.{StagesInRange, sheet_with, planned_sheet, IsPlanned}
use Rattle.plan.specs.Tool.{Plans}
use Rattle.construction.proofs.PlannedLaws.{planned, with_right}
use Rattle.construction.proofs.WithLaws.{Wires, with_read, with_length, with_formed}
use Rattle.plan.proofs.ToolLaws.{plans_done, plans_exist}
use Rattle.inspect.specs.Tool.{inspect_table, Inspectable, Inspects}
use Rattle.demand.specs.Demand.{DemandFor, ThirdDemand}
use Rattle.inspect.proofs.TableLaws.{inspects_by, inspects_right}

module _ {e : Edition} {n k : ℕ} {C : List ℕ} (sized : Sized e n k) (order : Order n C) where
  whole : {s : List ℕ} → length s ≡ sheet_places e → WellFormed e n k s → Inspectable e n k C s
  whole places formed = record { sized = sized; order = order; places = places; formed = formed }

  planned_passed : {s : List ℕ} (v : Result Unit Refusal) → IsPlanned e n k C s → Inspects e n k C s v → IsOk v
  planned_passed v ok inspects = (inspects.exact (whole ok.places ok.formed)).1 ok.right

answer_for : (o : Option Refusal) → (v : Result Unit Refusal) × (said v ≡ o)
answer_for none = (Ok tt, refl)
answer_for (some x) = (Err x, refl)

pub demand_held : (e : Edition) → e.most_k ≤ e.most_stages → ThirdDemand e
demand_held e room n k C sized order = record {
  verdict = λ s. let (v, is) = answer_for (first_of (inspect_table e n k C s)) in (v, inspects_by v is);
  exact = λ s v places formed inspects. inspects.exact (whole sized order places formed);
  gets = λ lent places.
      let ok = planned sized order room in
      (planned_sheet e n k C, plans_exist e n k C lent sized order places room, inspects_right (whole sized order ok.places ok.formed) ok.right);
  passes = λ lent s r v places plans inspects.
      let (done, ok) = plans_done e n k C lent sized order places s r plans in
      (done, planned_passed sized order v ok inspects);
  fewest = λ lent s other r places plans inspects.
      omega (arith, (plans_done e n k C lent sized order places s r plans).1.stages, inspects.stages refl);
}

pub passed_tool : {e : Edition} {n k : ℕ} {C s : List ℕ} (v : Result Unit Refusal) → Inspectable e n k C s → Inspects e n k C s v → IsOk v ↔ RightAsTool e n k C s
passed_tool v ok inspects = Iff.trans (inspects.exact ok) (tool_exact ok.sized ok.places ok.formed)

pub third_demand : ThirdDemand edition1
third_demand = demand_held edition1 (omega arith)

pub demand_fewest : {e : Edition} {n k : ℕ} {C : List ℕ} → DemandFor e n k C → Sized e n k → Order n C → e.most_k ≤ e.most_stages
    → (ss : List Stage) → StagesInRange n k ss → length ss ≤ e.most_stages → Wires k ss C
    → (lent s : List ℕ) (r : Result Unit Refusal) → length lent ≡ sheet_places e → Plans e n k C lent s r → length (read_side e n k s).stages ≤ length ss
demand_fewest {e} {n} {k} {C} demand sized order room ss range few wires lent s r places plans =
    let sound = whole sized order (with_length sized order room ss range few) (with_formed sized order room ss range few) in
    omega (
      arith,
      demand.fewest lent s (sheet_with e n k ss C) r places plans (inspects_right sound (with_right ss sized order room range few wires)),
      ap (λ (S : Side). length S.stages) (with_read sized order room ss range few),
    )
