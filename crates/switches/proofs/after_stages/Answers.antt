use Rattle.std.proofs.Common.{ℕ, ◌≡◌, ◌+◌, ◌<◌, ◌≤◌, sym, ap, ◌∙◌, List, length, get_or, drop, bit_and, bit_xor, arith}
use Rattle.std.proofs.lemmas.List.{at_drop_more, at_drop_all}
use lib.Bits.{xor_zero_r}
use Rattle.bits.specs.Parity.{parity, dot}
use Rattle.bits.proofs.ParityLaws.{dot_lt}
use Rattle.sheet.specs.declared.Stage.{Stage}
use Rattle.switches.specs.Stages.{switched, bank_after}
use Rattle.switches.proofs.after_stages.Goals as goal
use Rattle.switches.proofs.after_stages.Goals.{then-parity-eq1, else-parity-eq1}

module _ (s : Stage) (c : ℕ) {control odd : ℕ} (read : control ≡ s.control) (is : odd ≡ parity (bit_and control c)) where
  dot_is : odd ≡ dot s.control c
  unfolding dot
  dot_is = is ∙ ap (λ (x : ℕ). parity (bit_and x c)) read

  switched_odd : (b : ℕ) {next direction : ℕ} → odd ≡ 1 → direction ≡ s.direction → next ≡ bit_xor b direction → next ≡ switched s c b
  switched_odd b one to e = rw (sym dot_is ∙ one) (e ∙ ap (bit_xor b) to)

  switched_even : (b : ℕ) {next : ℕ} → ¬ (odd ≡ 1) → next ≡ b → next ≡ switched s c b
  switched_even b not e =
      let even : dot s.control c ≡ 0 = omega (arith, dot_is, dot_lt s.control c) in
      rw even (e ∙ sym (xor_zero_r b))

left_more : (ss : List Stage) (i c b : ℕ) {next : ℕ} → i < length ss → next ≡ switched (get_or ss i (record { direction = 0; control = 0 })) c b
    → bank_after (drop (i + 1) ss) c next ≡ bank_after (drop i ss) c b
unfolding bank_after
left_more ss i c b h e = ap (bank_after (drop (i + 1) ss) c) e ∙ sym (at_drop_more (λ (rest : List Stage). bank_after rest c b) ss i _ h)

left_none : (ss : List Stage) (i c b : ℕ) → length ss ≤ i → bank_after (drop i ss) c b ≡ b
unfolding bank_after
left_none ss i c b = at_drop_all (λ (rest : List Stage). bank_after rest c b) ss i

pub loop-stage-preserved : goal.loop-stage-preserved
loop-stage-preserved c =
    left_more c.args.stages.now c.loop-stage.stage-index c.args.tick.0 c.loop-stage.after c.loop-stage-test.true
    (elim c.if-parity-eq1.branch [
      | then-parity-eq1 w ↦ switched_odd _ _ c.from.ensures c.parity.ensures _ w.if-parity-eq1.true w.from-after.ensures w.after-is
      | else-parity-eq1 w ↦ switched_even _ _ c.from.ensures c.parity.ensures _ w.if-parity-eq1.false w.after-is
    ])
    ∙ c.loop-stage.invariant

pub returns : goal.returns
returns c = sym (left_none c.args.stages.now c.loop-stage.stage-index c.args.tick.0 c.loop-stage.after c.loop-stage-test.false) ∙ c.loop-stage.invariant
