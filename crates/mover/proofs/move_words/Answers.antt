use Rattle.std.proofs.Common.{ℕ, ◌+◌, ◌^◌, ◌<◌, ◌≡◌, ◌≢◌, List, length, get_or, set, bit_xor, sym, ◌∙◌, arith, below_none, below_more, ne_of_lt, length-set, get_or-set_same, get_or-set_other}
use lib.Count.{count_trailing_zeros}
use lib.Pow.{pow-lt}
use Rattle.bits.proofs.XorLaws.{xor_cancel}
use Rattle.bits.proofs.ImageLaws.{image_zero, image_xor}
use Rattle.bits.proofs.NextLaws.{trailing_lt, next_xor}
use Rattle.span.specs.Tools.{most_scanned}
use Rattle.order.specs.Order.{place}
use Rattle.mover.specs.Inside.{Steps, TwoFrames}
use Rattle.order.proofs.OrderLaws.{order_bijection}
use Rattle.mover.proofs.move_words.Invariants.{Moving}
use Rattle.mover.proofs.move_words.Goals as goal

abbrev zeros : ℕ → ℕ
zeros = count_trailing_zeros 64

start : {n : ℕ} {C f s g : List ℕ} → TwoFrames n C f g → Steps C s → Moving n C f s g 0 0
start {C} frames steps = record { frames = frames; steps = steps; here = λ _. sym (image_zero C); inside = λ l. omega (arith, frames.leaves); each = below_none _ }

module _ {n : ℕ} {C f s g : List ℕ} {p i : ℕ} (m : Moving n C f s g p i) (h : i < length f) where
  word : i < 2 ^ n
  word = omega arith

  narrow : 2 ^ n < 2 ^ (most_scanned + 1)
  narrow = pow-lt {i = n} {j = most_scanned + 1} (omega arith)

  at_place : p ≡ place C i
  at_place = m.here word

  next : zeros (i + 1) < most_scanned + 1
  next = trailing_lt 64 (most_scanned + 1) (i + 1) (omega arith) (omega (arith, word, narrow)) (omega arith)

  step : i + 1 < 2 ^ n → bit_xor p (get_or s (zeros (i + 1)) 0) ≡ place C (i + 1)
  step l =
      let fewer : zeros (i + 1) < length C = omega (arith, trailing_lt 64 n (i + 1) (omega arith) l (omega arith)) in
      let ones = next_xor 64 i (omega (arith, narrow)) in
      rw (at_place, m.steps (zeros (i + 1)) fewer, ← ones, ← image_xor C i (bit_xor i (i + 1)), xor_cancel i (i + 1))

  apart : (l : ℕ) → l < i → place C l ≢ p
  apart l k e = ne_of_lt k ((order_bijection m.frames.order).injective l i (omega (arith, word)) word (e ∙ at_place))

  more : Moving n C f s (set g p (get_or f i 0)) (bit_xor p (get_or s (zeros (i + 1)) 0)) (i + 1)
  more = record {
    frames = record {
      few = m.frames.few;
      order = m.frames.order;
      came = m.frames.came;
      leaves = length-set g p (get_or f i 0) ∙ m.frames.leaves;
    };
    steps = m.steps;
    here = step;
    inside = λ l. omega (arith, step l, (order_bijection m.frames.order).into (i + 1) l, length-set g p (get_or f i 0), m.frames.leaves);
    each =
        below_more _ i (λ l k. get_or-set_other g p (place C l) (get_or f i 0) 0 (apart l k) ∙ m.each l k)
        (rw (← at_place) (get_or-set_same g p (get_or f i 0) 0 (m.inside word)));
  }

pub loop-i-init : goal.loop-i-init
loop-i-init c = start c.requires c.steps_of-steps.ensures

pub bounds-steps-zeros : goal.bounds-steps-zeros
bounds-steps-zeros c = next c.loop-i.invariant c.loop-i-test.true

pub loop-i-preserved : goal.loop-i-preserved
loop-i-preserved c = more c.loop-i.invariant c.loop-i-test.true
