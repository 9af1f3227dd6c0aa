use Rattle.std.proofs.Common.{ℕ, ◌+◌, ◌≤◌, ◌<◌, ◌^◌, ◌≢◌, List, get_or, bit_xor, ap, arith}
use native.Mathlib.Decide.{ℕ_discrete}
use lib.Bits.{xor_self, xor_zero_r}
use lib.Count.{count_leading_zeros}
use Rattle.bits.proofs.XorLaws.{xor_assoc}
use Rattle.span.specs.Held.{width, Reduces}
use Rattle.span.proofs.HeldLaws.{made_zero, made_xor, row_high, row_place, entry_falls}
use Rattle.span.proofs.reduce.Invariants.{Reducing}
use Rattle.span.proofs.reduce.Goals as goal

start : {es : List ℕ} {e : ℕ} → e < 2 ^ (width + width) → Reducing es e e
start {e = e} fits = record { fits = fits; made = λ vs h. rw (xor_self e) (made_zero vs) }

module _ {es : List ℕ} {e left : ℕ} (i : Reducing es e left) (long : 2 ^ width ≤ left) where
  abbrev at : ℕ
  at = count_leading_zeros (width + width) left

  more : bit_xor left (get_or es at 0) < left → Reducing es e (bit_xor left (get_or es at 0))
  more less = record {
    fits = omega (arith, i.fits);
    made = λ vs h. rw (xor_assoc e left (get_or es at 0)) at (made_xor (i.made vs h) (h.sound at there));
  }
    where
      there : get_or es at 0 ≢ 0
      there none = omega (arith, ap (bit_xor left) none, xor_zero_r left)

  none : left ≤ bit_xor left (get_or es at 0) → Reduces es e left
  none more = record {
    made = i.made;
    stuck = λ vs h n. rw (← row_high i.fits long) (elim (ℕ_discrete (get_or es at 0) 0) [
      | yes z ↦ z
      | no there ↦ absurd (omega (arith, entry_falls h i.fits long there))
    ]);
  }

pub loop-left-init : goal.loop-left-init
loop-left-init c = start c.ranges.entry.fits

pub bounds-entries-left : goal.bounds-entries-left
bounds-entries-left c = row_place c.loop-left.invariant.fits c.loop-left-test.true

pub returns-then-left-less : goal.returns-then-left-less
returns-then-left-less c = none c.loop-left.invariant c.loop-left-test.true (omega arith)

pub loop-left-preserved : goal.loop-left-preserved
loop-left-preserved c = more c.loop-left.invariant c.loop-left-test.true (omega arith)
