-- The planned sheet passes for its order, and has the fewest read stages of all sheets that are right for it. It is the sheet with the read stages of 01.
--   write_layable       the planned write side can be laid out
--   planned             the planned sheet is what the planner promises
--   with_right          the sheet with given read stages is right for the order, if the wiring that they leave sends no two ports to one bank
--   with_fewest         and then a planned sheet has no more read stages than it
use Prim.Native.Nat.{ℕ, ◌+◌, ◌≤◌}
use mathlib.Core.Path.{◌≡◌, refl, ap, ◌∙◌}
use mathlib.Core.List.{List}
use native.Mathlib.Omega.{arith}
use lib.ListN.{length}
use Rattle.kinds.specs.Edition.{Edition, Sized}
use Rattle.span.specs.Scan.{rank}
use Rattle.order.specs.Order.{Order}
use Rattle.parts.specs.Parts.{rows_p1}
use Rattle.sheet.specs.Sheet.{Side, read_side}
use Rattle.sheet.specs.declared.Stage.{Stage}
use Rattle.sheet.specs.Layout.{WellFormed}
use Rattle.sheet.proofs.LayLaws.{Layable}
use Rattle.promise.specs.Right.{Right}
use Rattle.realise.proofs.ExactLaws.{realises_right, right_stages}
use Rattle.construction.specs.Planned.{StagesInRange, sheet_with, read_stages_of, planned_read, planned_write, planned_sheet, IsPlanned}
use Rattle.construction.proofs.ChoiceLaws.{read_count, read_layable}
use Rattle.construction.proofs.WiringLaws.{wiring_vanish}
use Rattle.construction.proofs.WithLaws.{Wires, wires_vanish, with_write_layable, with_read, with_length, with_formed, with_passes}

module _ {e : Edition} {n k : ℕ} {C : List ℕ} (sized : Sized e n k) (order : Order n C) (room : e.most_k ≤ e.most_stages) where
  within : k ≤ n
  within = omega (arith, sized.most)

  read_laid : Layable e n k (planned_read n k C)
  read_laid = read_layable k within order e (omega (arith, sized.most))

  abbrev ss : List Stage
  ss = read_stages_of n k C

  range : StagesInRange n k ss
  range = read_laid.used.stages

  few : length ss ≤ e.most_stages
  few = read_laid.stages

  pub write_layable : Layable e n k (planned_write n k C)
  write_layable = with_write_layable sized order room ss range few

  abbrev sheet : List ℕ
  sheet = planned_sheet e n k C

  sheet_count : rank (rows_p1 k C) + length (read_side e n k sheet).stages ≡ k
  sheet_count = ap (λ (S : Side). rank (rows_p1 k C) + length S.stages) (with_read sized order room ss range few) ∙ read_count k within order

  formed : WellFormed e n k sheet
  formed = with_formed sized order room ss range few

  pub planned : IsPlanned e n k C sheet
  planned = record {
    constructed = refl;
    places = with_length sized order room ss range few;
    formed = formed;
    right = realises_right within order formed (with_passes sized order room ss range few (wiring_vanish k within order));
    stages = sheet_count;
    fewest = λ s formed right. omega (arith, right_stages within order formed right, sheet_count);
  }

module _ {e : Edition} {n k : ℕ} {C : List ℕ} (ss : List Stage) (sized : Sized e n k) (order : Order n C) (room : e.most_k ≤ e.most_stages)
    (range : StagesInRange n k ss) (few : length ss ≤ e.most_stages) (wires : Wires k ss C) where
  pub with_right : Right e n k C (sheet_with e n k ss C)
  with_right = realises_right (omega (arith, sized.most)) order (with_formed sized order room ss range few) (with_passes sized order room ss range few (wires_vanish k ss C wires))

  pub with_fewest : {s : List ℕ} → IsPlanned e n k C s → length (read_side e n k s).stages ≤ length ss
  with_fewest is =
      omega (
        arith,
        is.fewest (sheet_with e n k ss C) (with_formed sized order room ss range few) with_right,
        ap (λ (S : Side). length S.stages) (with_read sized order room ss range few),
      )
