use Rattle.std.proofs.Common.{ℕ, ◌+◌, ◌*◌, ◌≡◌, ◌≤◌, ◌<◌, ◌/◌, List, length, sym, ap, ◌∙◌, arith}
use lib.Count.{ones, ones-le}
use Rattle.bits.proofs.ParityLaws.{ones_least}
use Rattle.sheet.specs.Sheet.{stage_at}
use Rattle.sheet.specs.Inside.{IsStageAt}
use Rattle.sheet.specs.declared.Stage.{Stage}
use Rattle.sheet.proofs.StageLaws.{each_stage}
use Rattle.price.specs.Price.{xor_gates_of}
use Rattle.price.proofs.PriceLaws.{total_none, total_more, gates_few}
use Rattle.price.proofs.xor_gates.Goals as goal

control : {places : List ℕ} {s r : ℕ} {stage : Stage} → IsStageAt places s stage → s < length places / 2 → r ≡ stage.control → r ≡ (stage_at places s).control
control is inside e = e ∙ ap (λ (x : Stage). x.control) (is.there inside)

pub loop-s-init : goal.loop-s-init
loop-s-init c = sym (total_none xor_gates_of _)

pub overflow_sub-gates : goal.overflow_sub-gates
overflow_sub-gates c =
    let s = c.loop-s.s in
    rw (control c.stage_at.ensures (omega (arith, c.requires.room)) c.from-control.ensures)
    (ones_least (stage_at c.args.places.now s).control
    ((each_stage (λ s. 1 ≤ s.control) c.args.places.now c.args.count).0 c.requires.controls s c.loop-s-test.true))

pub overflow_add-gates : goal.overflow_add-gates
overflow_add-gates c =
    let places = c.args.places.now in
    let few = gates_few places c.loop-s.s (λ i h. omega (arith, c.type_inv.places (2 * i + 1))) in
    let its = control c.stage_at.ensures (omega (arith, c.requires.room)) c.from-control.ensures in
    let most = ones-le 16 c.from-control.result (omega (arith, its, c.type_inv.places (2 * c.loop-s.s + 1))) in
    omega (arith, few, most, c.loop-s.invariant, c.requires.few)

pub loop-s-preserved : goal.loop-s-preserved
loop-s-preserved c =
    let its = control c.stage_at.ensures (omega (arith, c.requires.room)) c.from-control.ensures in
    omega (arith, total_more xor_gates_of c.args.places.now c.loop-s.s, ap ones its, c.loop-s.invariant)
