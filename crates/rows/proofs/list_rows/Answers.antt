use Rattle.std.proofs.Common.{ℕ, suc, ◌+◌, ◌-◌, ◌^◌, ◌≤◌, ◌<◌, ◌≡◌, min, Bool, List, [], ◌∷◌, ◌++◌, length, refl, ap, ◌∙◌, arith, length-append}
use mathlib.Core.Bool.{beq, Bool-discrete}
use mathlib.Core.List.{map-append}
use Rattle.kinds.specs.Answers.{Says}
use Rattle.kinds.specs.Search.{those}
use Rattle.kinds.proofs.SearchLaws.{those_new, those_old}
use Rattle.kinds.proofs.TruthLaws.{denied, equal_says}
use Rattle.few.proofs.FewLaws.{with_room}
use Rattle.bits.specs.Padded.{array_width}
use Rattle.rows.specs.Listed.{kept_in, kept_numbers}
use Rattle.rows.proofs.list_rows.Invariants.{Listing}
use Rattle.rows.proofs.list_rows.Goals.{then-was_kept-kept, else-was_kept-kept}
use Rattle.rows.proofs.list_rows.Goals as goal

module _ (ms : List ℕ) (a : ℕ) (kept : Bool) where
  listed_none : kept_numbers ms a a kept ≡ []
  unfolding kept_numbers those
  listed_none = let none : a - a ≡ 0 = omega arith in rw none

  listed_same : (b i : ℕ) → b - a ≡ i - a → kept_numbers ms a b kept ≡ kept_numbers ms a i kept
  unfolding kept_numbers
  listed_same b i e = rw e

  module _ {i : ℕ} (from : a ≤ i) where
    next : i + 1 - a ≡ suc (i - a)
    next = omega arith

    back : a + (i - a) ≡ i
    back = omega arith

    listed_new : kept_in ms i ≡ kept → kept_numbers ms a (i + 1) kept ≡ kept_numbers ms a i kept ++ ((i - a) ∷ [])
    unfolding kept_numbers
    listed_new e = rw next (those_new (λ j. Bool-discrete (kept_in ms (a + j)) kept) (i - a) (rw back e))

    listed_old : ¬ (kept_in ms i ≡ kept) → kept_numbers ms a (i + 1) kept ≡ kept_numbers ms a i kept
    unfolding kept_numbers
    listed_old n = rw next (those_old (λ j. Bool-discrete (kept_in ms (a + j)) kept) (i - a) (rw back n))

module _ {ms : List ℕ} {a : ℕ} {kept : Bool} {end : ℕ} {units : List ℕ} {i : ℕ} (l : Listing ms a kept end units i) (from : a ≤ i) (h : i < end) where
  add : {more : List ℕ} {unit : ℕ} → kept_in ms i ≡ kept → unit ≡ 2 ^ (i - a) → more ≡ units ++ (unit ∷ []) → Listing ms a kept end more (i + 1)
  add {more} {unit} e u es = record {
    to = omega arith;
    few = omega (arith, ap length es, length-append units (unit ∷ []), l.few);
    front = es ∙ rw (listed_new ms a kept from e, map-append (λ p. 2 ^ p) (kept_numbers ms a i kept) ((i - a) ∷ []), u, l.front) refl;
  }

  pass : ¬ (kept_in ms i ≡ kept) → Listing ms a kept end units (i + 1)
  pass n = record { to = omega arith; few = omega (arith, l.few); front = rw (listed_old ms a kept from n) l.front }

pub loop-i-init : goal.loop-i-init
loop-i-init c = record { to = omega arith; few = omega (arith, ap length c.new-units.ensures); front = rw (listed_none c.args.masks.now c.args.a c.args.kept) c.new-units.ensures }

pub loop-i-preserved : goal.loop-i-preserved
loop-i-preserved c =
    let i = c.loop-i.i in
    let from : c.args.a ≤ i = omega arith in
    let test : Says (beq c.was_kept.result c.args.kept) (kept_in c.args.masks.now i ≡ c.args.kept) = rw c.was_kept.ensures (equal_says (kept_in c.args.masks.now i) c.args.kept) in
    elim c.if-was_kept-kept.branch [
      | then-was_kept-kept w ↦
          rw w.units-is
          (add c.loop-i.invariant from c.loop-i-test.true (test.0 w.if-was_kept-kept.true) (w.two_to.ensures.fits (omega arith)) (w.add.ensures ∙ with_room array_width _ _ (omega (arith, c.loop-i.invariant.few))))
      | else-was_kept-kept w ↦ rw w.units-is (pass c.loop-i.invariant from c.loop-i-test.true (denied test w.if-was_kept-kept.false))
    ]

pub returns : goal.returns
returns c =
    let l = c.loop-i.invariant in
    rw (listed_same c.args.masks.now c.args.a c.args.kept (min c.args.b array_width) c.loop-i.i (omega (arith, l.to))) l.front
