use Rattle.std.proofs.Common.{◌≡◌, ◌∙◌, length, arith}
use Rattle.few.proofs.FewLaws.{clear_one, leave_one, blank_after, first_kept}
use Rattle.few.proofs.Few.first.Goals.{then-count-i, else-count-i}
use Rattle.few.proofs.Few.first.Goals as goal

pub loop-i-preserved : goal.loop-i-preserved
loop-i-preserved g c =
    let i = c.loop-i.invariant in
    elim c.if-count-i.branch [
      | then-count-i w ↦ rw (w.places-is, w.blank.ensures) (clear_one i w.if-count-i.true (omega arith))
      | else-count-i w ↦ rw w.places-is (leave_one i w.if-count-i.false)
    ]

pub invariant_of-result : goal.invariant_of-result
invariant_of-result g c =
    let all : length c.args.items ≡ g.row.N = omega arith in (
      omega (arith, c.min.ensures),
      rw (← all) (blank_after c.loop-i.invariant c.min.result (rw all c.min.ensures) (omega arith)),
      c.loop-i.invariant.size ∙ all,
    )

pub returns : goal.returns
returns g c =
    let all : length c.args.items ≡ g.row.N = omega arith in
    first_kept c.loop-i.invariant c.min.result (rw all c.min.ensures) (omega arith)
