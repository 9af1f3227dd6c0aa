-- Past the check the columns are an order, and the sheet has its places.
use Rattle.std.proofs.Common.{ℕ, ◌≡◌, ◌≤◌, List, length, sym, subst, ◌∙◌, ap, arith}
use Rattle.kinds.specs.Edition.{edition1, Sized, sheet_places}
use Rattle.kinds.proofs.AnswerLaws.{one_length, done_by}
use Rattle.order.specs.Order.{Order}
use Rattle.sheet.specs.declared.Stage.{Stage}
use Rattle.sheet.specs.Table.{sheet_lengths}
use Rattle.construction.specs.Planned.{StagesInRange, read_stages_of, sheet_with, IsPlanned}
use Rattle.construction.proofs.ChoiceLaws.{read_layable}
use Rattle.construction.proofs.PlannedLaws.{planned}
use Rattle.plan.proofs.ToolLaws.{past_check}
use Rattle.plan.proofs.plan.Goals as goal

module _ {n k : ℕ} {C : List ℕ} {ss : List Stage} (sized : Sized edition1 n k) (order : Order n C) (is : ss ≡ read_stages_of n k C) where
  few : length ss ≤ edition1.most_stages
  few = rw is (read_layable k (omega arith) order edition1 (omega arith)).stages

  in_range : StagesInRange n k ss
  in_range = rw is (read_layable k (omega arith) order edition1 (omega arith)).used.stages

  written : {s : List ℕ} → s ≡ sheet_with edition1 n k ss C → IsPlanned edition1 n k C s
  written wrote = subst (IsPlanned edition1 n k C) (sym (wrote ∙ ap (λ (ss : List Stage). sheet_with edition1 n k ss C) is)) (planned sized order (omega arith))

pub read_stages-read-requires : goal.read_stages-read-requires
read_stages-read-requires c =
    rw (c.in_ok-sizes.ensures.sizes.0) (past_check _ _ _ _ (c.in_ok-sizes.ensures.answer (sheet_lengths edition1 c.args.sheet.now) (one_length _ _))).0

pub invariant_of-chosen : goal.invariant_of-chosen
invariant_of-chosen c =
    let (order, _) = past_check _ _ _ _ (c.in_ok-sizes.ensures.answer (sheet_lengths edition1 c.args.sheet.now) (one_length _ _)) in
    let held : Order c.in_ok-sizes.sizes.n c.args.columns.now = rw (c.in_ok-sizes.ensures.sizes.0) order in
    let sized = c.in_ok-sizes.sizes.sized in
    let is = c.read_stages-read.ensures in
    record { order = held; few = few sized held is; in_range = in_range sized held is }

pub write_sheet-requires : goal.write_sheet-requires
write_sheet-requires c = omega (arith, (past_check _ _ _ _ (c.in_ok-sizes.ensures.answer (sheet_lengths edition1 c.args.sheet.now) (one_length _ _))).1)

pub returns : goal.returns
returns c =
    let says = c.in_ok-sizes.ensures.answer (sheet_lengths edition1 c.args.sheet.now) (one_length _ _) in
    let (same_n, same_k) = c.in_ok-sizes.ensures.sizes in
    done_by (sym says)
    (rw (← same_n, ← same_k) (written c.in_ok-sizes.sizes.sized (rw same_n (past_check _ _ _ _ says).0) c.read_stages-read.ensures c.write_sheet.ensures))
