-- The directions and the controls are those of the shown side.
use Rattle.std.proofs.Common.{ℕ, ◌≡◌, ◌≤◌, ◌^◌, ap, subst, ◌∙◌, Bool, List, length, take, take_all}
use Rattle.kinds.specs.Answers.{Says}
use Rattle.kinds.specs.Frame.{tick_bits}
use Rattle.kinds.proofs.TruthLaws.{says_yes, says_not, denied}
use Rattle.span.specs.Sums.{Independent}
use Rattle.sheet.specs.declared.Stage.{Stage}
use Rattle.switches.proofs.StageLaws.{directions, controls}
use Rattle.switches.proofs.SurplusLaws.{surplus_tells}
use Rattle.maps.proofs.OpenLaws.{shown_stages}
use Rattle.maps.proofs.OpenSide.has_surplus.Goals as goal

-- what is said of the numbers of all stages that were gone through
all_say : (numbers : List Stage → List ℕ) (i : ℕ) {b : Bool} {ss all : List Stage} {x y : List ℕ} → length ss ≤ i → ss ≡ all → x ≡ numbers (take i ss) → y ≡ x
    → Says b (Independent y) → Says b (Independent (numbers all))
all_say numbers i {b} {ss} end are so_far lent = subst (λ (l : List ℕ). Says b (Independent l)) (lent ∙ so_far ∙ ap numbers (take_all i ss end ∙ are))

pub returns-then-not-independent : goal.returns-then-not-independent
returns-then-not-independent c n k S shows =
    let are = c.as_slice-stage-items.ensures.value ∙ shown_stages shows in
    let says = all_say directions _ c.loop-stage-test.false are c.loop-stage.invariant.so_far c.as_slice.ensures.value c.independent.ensures in
    rw c.if-not-independent.true (says_yes ((surplus_tells (2 ^ k) (tick_bits n k) S.stages shows.used.stages).1 (λ (free, _). denied says c.if-not-independent.true free)))

pub returns-else-not-independent : goal.returns-else-not-independent
returns-else-not-independent c n k S shows =
    let are = c.as_slice-stage-items.ensures.value ∙ shown_stages shows in
    let free = (all_say directions _ c.loop-stage-test.false are c.loop-stage.invariant.so_far c.as_slice.ensures.value c.independent.ensures).0 c.if-not-independent.false in
    let says = all_say controls _ c.loop-stage-test.false are c.loop-stage.invariant.beside c.as_slice-else-not-independent.ensures.value c.independent-else-not-independent.ensures in
    let tells = surplus_tells (2 ^ k) (tick_bits n k) S.stages shows.used.stages in
    let opposite = says_not c.independent-else-not-independent.result says in (
      λ e. tells.1 (λ both. opposite.0 e both.1),
      λ more. opposite.1 (λ other. tells.0 more (free, other)),
    )
