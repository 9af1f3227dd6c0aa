use Rattle.std.proofs.Common.{ℕ, ◌≡◌, ◌≢◌, Bool, true, false, not, eqb, List, get_or, sym, ◌∙◌, arith, eq-eqb, eqb-true}
use Rattle.std.specs.List.{IsAnyAnswer}
use Rattle.std.proofs.lemmas.Grind.{common_steps}
use Rattle.kinds.specs.Answers.{Says}
use Rattle.kinds.proofs.TruthLaws.{false≢true, says_no, says_yes}
use Rattle.faults.specs.Marks.{Filled, with_marks}
use Rattle.faults.proofs.MarkLaws.{put_other, zero_stays, marked_zero}
use Rattle.faults.proofs.is_filled.Goals as goal
use Rattle.faults.proofs.is_filled.Goals.{then-at-marks, else-at-marks}

module _ (freed marks : List ℕ) (cell : ℕ) where
  abbrev Stays : Type 0
  Stays = Filled (with_marks 0 freed marks) cell

  empty : get_or marks cell 0 ≡ 0 → ¬ Stays
  empty e stays = stays (zero_stays freed marks cell e)

  unless_freed : (r : Bool) → IsAnyAnswer (λ y b. eqb y cell ≡ b) freed r → get_or marks cell 0 ≢ 0 → Says (not r) Stays
  unless_freed true (q, h, same) filled = says_no (λ stays. stays (rw (eqb-true _ _ (same 0)) at (marked_zero freed marks q h)))
  unless_freed false other filled =
      says_yes (λ e. filled (sym (put_other freed _ marks cell (λ q h same. false≢true (sym (other q 0 (omega arith) h) ∙ eq-eqb _ _ same))) ∙ e))

pub returns-then-marked : goal.returns-then-marked
returns-then-marked c =
    unless_freed c.args.freed.now c.args.marks.now c.args.cell c.contains.result c.contains.ensures.cases
    (elim c.if-at-marks.branch [ then-at-marks w ↦ grind (arith, common_steps) | else-at-marks w ↦ grind (arith, common_steps) ])

pub returns-else-marked : goal.returns-else-marked
returns-else-marked c =
    rw c.if-marked.false
    (says_no
    (empty c.args.freed.now c.args.marks.now c.args.cell
    (elim c.if-at-marks.branch [ then-at-marks w ↦ grind (arith, common_steps) | else-at-marks w ↦ grind (arith, common_steps) ])))
