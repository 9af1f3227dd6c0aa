use Rattle.std.proofs.Common.{List, ℕ, suc, ◌≡◌, ◌+◌, ◌-◌, ◌≤◌, ◌<◌, ◌∷◌, ◌++◌, length, get_or, drop, sym, ap, ap₂, subst, ◌∙◌, arith, add-one, drop-cons, length-append, length-drop}
use mathlib.Core.Option.{none}
use lib.ListN.{drop_of_length-le}
use lib.Seq.{append_snoc}
use Rattle.text.specs.Number.{IsDigit, NoDigit, Stops, NumeralAt}
use Rattle.text.proofs.ReadLaws.{more, GoesOn, digits, digits_more, digits_stop, digits_none}
use Rattle.text.proofs.number.Invariants.{Reads}
use Rattle.text.proofs.number.Goals as goal
use Rattle.text.proofs.number.Goals.{else-loop-place-test, then-loop-place-test+then-not-is_ascii_digit}

module _ {b : List ℕ} {at value place : ℕ} (r : Reads b at value place) where
  abbrev seen : ℕ
  seen = place - at

  begins : place ≡ at → NoDigit (drop place b) → NumeralAt b at none at
  begins same n = (0, omega arith, digits_none (drop at b) (subst (λ (i : ℕ). NoDigit (drop i b)) same n))

  past : length b ≤ place → NoDigit (drop place b)
  past h = rw (drop_of_length-le b {i = place} h) tt

  module _ (h : place < length b) where
    abbrev byte : ℕ
    byte = get_or b place 0

    abbrev rest : List ℕ
    rest = drop (place + 1) b

    here : drop place b ≡ byte ∷ rest
    here = rw (add-one, drop-cons b place 0 h)

    no_digit : ¬ IsDigit byte → NoDigit (drop place b)
    no_digit n = rw here n

    many : length (digits seen value) ≡ seen
    many = omega (arith, r.begun, ap length r.bytes, length-append (digits seen value) (drop place b), length-drop at b, length-drop place b)

    stop : IsDigit byte → ¬ GoesOn seen value byte → NumeralAt b at none place
    stop d not = (
      seen,
      omega (arith, r.begun),
      subst (Stops (drop at b)) many (rw (r.bytes, here) (digits_stop seen value byte rest r.sofar d not)),
    )

    again : (v : ℕ) → v ≡ more value byte → GoesOn seen value byte → Reads b at v (place + 1)
    again v same g = record {
      begun = omega (arith, r.begun);
      within = omega (arith, r.begun);
      sofar = omega (arith, r.begun);
      bytes =
          r.bytes
          ∙ ap (λ (l : List ℕ). digits seen value ++ l) here
          ∙ sym (append_snoc (digits seen value) byte rest)
          ∙ ap (λ (l : List ℕ). l ++ rest) (digits_more seen value byte r.sofar g ∙ one_more);
    }
      where
        one_more : digits (suc seen) (more value byte) ≡ digits (place + 1 - at) v
        one_more = let step : suc seen ≡ place + 1 - at = omega (arith, r.begun) in ap₂ digits step (sym same)

pub returns-then-place-at : goal.returns-then-place-at
returns-then-place-at c = stop c.loop-place.invariant c.loop-place-test.true c.if-not-is_ascii_digit.ensures.cases (λ g. omega arith)

pub returns-then-value-gt65535 : goal.returns-then-value-gt65535
returns-then-value-gt65535 c = stop c.loop-place.invariant c.loop-place-test.true c.if-not-is_ascii_digit.ensures.cases (λ g. omega (arith, c.from.ensures))

pub loop-place-preserved : goal.loop-place-preserved
loop-place-preserved c =
    again c.loop-place.invariant c.loop-place-test.true _ (omega (arith, c.from.ensures)) (grind (arith, c.from.ensures, c.if-not-is_ascii_digit.ensures.cases))

-- the loop was left: at the end, or since the byte is no digit
pub returns-then-place-at-2 : goal.returns-then-place-at-2
returns-then-place-at-2 c =
    let r = c.loop-place.invariant in
    begins r (omega arith)
    (elim c.loop-place-test.branch [
      | else-loop-place-test w ↦ past r w.loop-place-test.false
      | then-loop-place-test+then-not-is_ascii_digit w ↦ no_digit r w.loop-place-test.true (λ d. omega (arith, w.if-not-is_ascii_digit.ensures.cases))
    ])
