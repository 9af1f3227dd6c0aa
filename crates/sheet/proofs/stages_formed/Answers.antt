use Rattle.std.proofs.Common.{ℕ, ◌≡◌, ◌+◌, ◌*◌, ◌/◌, ◌<◌, ◌↔◌, false, List, length, get_or, arith}
use lib.ListN.{get_or-eq_default}
use Rattle.kinds.specs.Answers.{Says}
use Rattle.kinds.proofs.TruthLaws.{says_no, says_yes, denied}
use Rattle.sheet.specs.Sheet.{stage_at, stages_in}
use Rattle.sheet.specs.declared.Stage.{Stage}
use Rattle.sheet.specs.Layout.{StageInRange, EachStage}
use Rattle.sheet.proofs.StageLaws.{each_stage}
use Rattle.sheet.proofs.stages_formed.Goals as goal

module _ (l : List ℕ) (count ports ticks : ℕ) where
  abbrev Formed : Stage → Type 0
  Formed = StageInRange ports ticks

  abbrev AllFormed : Type 0
  AllFormed = EachStage Formed (stages_in count l)

  each : AllFormed ↔ ((s : ℕ) → s < count → Formed (stage_at l s))
  each = each_stage Formed l count

  -- a stage without two places has a 0
  none_there : length l / 2 < count → Says false AllFormed
  none_there h =
      says_no (λ all.
      let last = length l / 2 in
      let none : get_or l (2 * last + 1) 0 ≡ 0 = get_or-eq_default l 0 (omega arith) in
      omega (arith, (each.0 all last h).control.least, none))

pub returns-then-places-count : goal.returns-then-places-count
returns-then-places-count c = none_there _ _ _ _ c.if-places-count.true

pub returns-then-not-in_range : goal.returns-then-not-in_range
returns-then-not-in_range c =
    says_no (λ all.
    denied c.in_range.ensures c.if-not-in_range.true
    (rw (c.stage_at.ensures.there (omega arith)) ((each _ _ _ _).0 all c.loop-s.s c.loop-s-test.true)))

pub returns : goal.returns
returns c = says_yes ((each _ _ _ _).1 (λ s h. c.loop-s.invariant s (omega arith)))
