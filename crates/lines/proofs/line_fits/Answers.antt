use Rattle.std.proofs.Common.{List, ℕ, ◌≡◌, ◌+◌, ◌≤◌, ◌<◌, length, get_or, drop, refl, ap, arith, length-append, nat_lt}
use borrow.Author.Tests.{ltb-true, lt-ltb}
use Rattle.kinds.specs.Answers.{Says}
use Rattle.kinds.proofs.TruthLaws.{says_no, says_yes, denied}
use Rattle.text.specs.Decimal.{decimal}
use Rattle.text.proofs.DecimalLaws.{decimal_length}
use Rattle.lines.specs.Line.{line_end}
use Rattle.lines.proofs.LineLaws.{ending_more, ending_done, ending_length}
use Rattle.lines.proofs.line_fits.Invariants.{Measures}
use Rattle.lines.proofs.line_fits.Goals as goal

module _ {places at name : ℕ} {ns : List ℕ} {end i : ℕ} (m : Measures places at name ns end i) where
  module _ (h : i < length ns) where
    abbrev number : List ℕ
    number = decimal (get_or ns i 0)

    here : length (line_end (drop i ns)) ≡ 1 + length number + length (line_end (drop (i + 1) ns))
    here = omega (arith, ap length (ending_more ns i h), length-append number (line_end (drop (i + 1) ns)))

    short : {wide : ℕ} → wide ≡ length number → ¬ (end + (1 + wide) ≤ places) → ¬ (at + (name + length (line_end ns)) ≤ places)
    short is not fits = not (omega (arith, m.left, here, is))

    more : {wide : ℕ} → wide ≡ length number → end + (1 + wide) ≤ places → Measures places at name ns (end + (1 + wide)) (i + 1)
    more is fits = record { within = fits; left = omega (arith, m.left, here, is) }

  last : length ns ≤ i → Says (nat_lt end places) (at + (name + length (line_end ns)) ≤ places)
  last h =
      let newline = ap length (ending_done ns i h) in
      (λ yes. omega (arith, m.left, newline, ltb-true end places yes), λ fits. lt-ltb end places (omega (arith, m.left, newline)))

pub returns-then-numbers-places : goal.returns-then-numbers-places
returns-then-numbers-places c = says_yes (omega (arith, ending_length c.args.numbers.now (λ j h. omega (arith, c.type_inv.numbers j))))

pub overflow_add-spaced : goal.overflow_add-spaced
overflow_add-spaced c =
    let i = c.loop-number.number-index in
    omega (arith, decimal_length 10 (get_or c.args.numbers.now i 0) (omega arith) (omega (arith, c.type_inv.numbers i)))

pub returns-then-not-has_room-2 : goal.returns-then-not-has_room-2
returns-then-not-has_room-2 c = says_no (short c.loop-number.invariant c.loop-number-test.true c.width-spaced.ensures (denied c.has_room-in-loop-number.ensures c.if-not-has_room-2.true))

pub loop-number-preserved : goal.loop-number-preserved
loop-number-preserved c = more c.loop-number.invariant c.loop-number-test.true c.width-spaced.ensures (c.if-not-has_room-2.ensures.0 refl)

pub returns : goal.returns
returns c = last c.loop-number.invariant c.loop-number-test.false
