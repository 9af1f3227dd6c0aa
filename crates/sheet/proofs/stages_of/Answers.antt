use Rattle.std.proofs.Common.{ℕ, ◌≡◌, ◌+◌, ◌≤◌, ◌<◌, ◌/◌, ◌∙◌, min, List, length, take, set, length-set, length-take, get_or-set_same, arith}
use Rattle.std.proofs.lemmas.List.{get_or-set_other, get_or-take}
use native.Mathlib.Decide.{ℕ_discrete}
use Rattle.kinds.proofs.FrameLaws.{in_order_is}
use Rattle.sheet.specs.Sheet.{stage_at, stages_in}
use Rattle.sheet.specs.declared.Stage.{Stage}
use Rattle.sheet.specs.Inside.{IsStageAt, most_stages_in}
use Rattle.sheet.proofs.stages_of.Invariants.{nothing, Reading}
use Rattle.sheet.proofs.stages_of.Goals as goal

module _ {l : List ℕ} {ss : List Stage} {s : ℕ} (r : Reading l ss s) where
  more : {stage : Stage} → s < 8 → IsStageAt l s stage → Reading l (set ss s stage) (s + 1)
  more {stage} h is = record {
    size = length-set ss s stage ∙ r.size;
    each = λ i before inside. elim (ℕ_discrete i s) [
      | yes e ↦ rw e (get_or-set_same ss s stage nothing (omega (arith, r.size)) ∙ is.there (omega (arith, e)))
      | no n ↦ get_or-set_other ss s i stage nothing n ∙ r.each i (omega arith) inside
    ];
  }

  done : (m count : ℕ) → 8 ≤ s → m ≡ min count (length l / 2) → take m ss ≡ stages_in (most_stages_in count l) l
  unfolding stages_in
  done m count end is =
      in_order_is (most_stages_in count l) (stage_at l) nothing (take m ss) (omega (arith, length-take m ss, r.size))
      (λ i h. get_or-take m ss i nothing (omega arith) ∙ r.each i (omega arith) (omega arith))

pub loop-s-preserved : goal.loop-s-preserved
loop-s-preserved c = more c.loop-s.invariant c.loop-s-test.true c.stage_at.ensures

pub returns : goal.returns
returns c = c.first.ensures ∙ done c.loop-s.invariant _ _ (omega arith) c.min.ensures
