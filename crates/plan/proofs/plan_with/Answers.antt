-- Past the check the columns are an order, and the sheet has its places.
use Rattle.std.proofs.Common.{refl, ap, arith}
use Rattle.std.proofs.lemmas.Result.{err_from_is_err_and}
use Rattle.kinds.specs.Edition.{edition1}
use Rattle.kinds.proofs.TruthLaws.{denied}
use Rattle.kinds.proofs.AnswerLaws.{one_length}
use Rattle.sheet.specs.Table.{sheet_lengths}
use Rattle.construction.specs.Planned.{StagesInRange}
use Rattle.plan.proofs.ToolLaws.{past_check, with_before, with_out, with_in}
use Rattle.plan.proofs.plan_with.Goals as goal

pub returns-in_err-sizes : goal.returns-in_err-sizes
returns-in_err-sizes c =
    let (_, is, same) = err_from_is_err_and c.from_residual.result c.from_residual.ensures.1 in
    let says = c.in_err-sizes.ensures.answer (sheet_lengths edition1 c.args.sheet.now) (one_length _ _) in
    rw is (rw same (with_before _ _ _ _ _ says refl))

pub returns-then-not-in_range : goal.returns-then-not-in_range
returns-then-not-in_range c =
    let (same_n, same_k) = c.in_ok-sizes.ensures.sizes in
    let says = c.in_ok-sizes.ensures.answer (sheet_lengths edition1 c.args.sheet.now) (one_length _ _) in
    with_out _ _ _ _ _ says (rw (← same_n) (rw (← same_k) (rw (← c.as_slice.ensures.value) (denied c.in_range.ensures c.if-not-in_range.true)))) refl

pub invariant_of-chosen : goal.invariant_of-chosen
invariant_of-chosen c =
    let (order, _) = past_check _ _ _ _ (c.in_ok-sizes.ensures.answer (sheet_lengths edition1 c.args.sheet.now) (one_length _ _)) in
    record {
      order = rw (c.in_ok-sizes.ensures.sizes.0) order;
      few = rw (c.as_slice.ensures.value) at c.as_slice.ensures.fits;
      in_range = rw (← c.as_slice.ensures.value) (c.in_range.ensures.0 c.if-not-in_range.false);
    }

pub write_sheet-requires : goal.write_sheet-requires
write_sheet-requires c = omega (arith, (past_check _ _ _ _ (c.in_ok-sizes.ensures.answer (sheet_lengths edition1 c.args.sheet.now) (one_length _ _))).1)

pub returns : goal.returns
returns c =
    let (same_n, same_k) = c.in_ok-sizes.ensures.sizes in
    let says = c.in_ok-sizes.ensures.answer (sheet_lengths edition1 c.args.sheet.now) (one_length _ _) in
    with_in _ _ _ _ _ says
    (rw (← same_n) (rw (← same_k) (rw (← c.as_slice.ensures.value) (c.in_range.ensures.0 c.if-not-in_range.false))))
    (rw (← same_n) (rw (← same_k) c.write_sheet.ensures))
