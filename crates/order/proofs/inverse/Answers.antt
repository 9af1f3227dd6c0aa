-- Past the check the columns are an order that the scan holds, and out has a place for each.
use Rattle.std.proofs.Common.{ℕ, ◌≡◌, List, length, nat_eq, sym, arith, Ok}
use Rattle.kinds.specs.Edition.{edition1, SizedN}
use Rattle.kinds.specs.Decisions.{sized_n?}
use Rattle.kinds.proofs.AnswerLaws.{one_length, done_by}
use Rattle.span.specs.declared.Scan.{Scan}
use Rattle.order.specs.Order.{Order}
use Rattle.order.specs.Table.{inverse_lengths}
use Rattle.order.specs.Inside.{ChecksAndScans}
use Rattle.order.proofs.TableLaws.{order_sound}
use Rattle.order.proofs.inverse.Goals as goal

sound : (n : ℕ) (C out : List ℕ) {scan : Scan} → ChecksAndScans n C (nat_eq (length out) n) (Ok scan) → SizedN edition1 n × (length out ≡ n) × Order n C
sound n C out checks =
    let (sized, right, order) = (order_sound (sized_n? edition1 n) n C (inverse_lengths n out)).0 (sym (checks.answer (inverse_lengths n out) (one_length _ _))) in
    (sized, right.0, order)

pub write_inverse-requires : goal.write_inverse-requires
write_inverse-requires c =
    let (sized, count, _) = sound _ _ c.args.out.now c.in_ok-scan.ensures in
    omega (arith, sized.most)

pub returns : goal.returns
returns c =
    let checks = c.in_ok-scan.ensures in
    let (_, count, order) = sound _ _ c.args.out.now checks in
    done_by (sym (checks.answer (inverse_lengths c.args.n c.args.out.now) (one_length _ _)))
    (rw count at (c.write_inverse.ensures c.args.columns.now checks.holds) order)
