-- What follows from the contracts of the readers alone.
--   number_unique          there is one answer to what number stands at a place
--   next_number            a number that is read is there
--   next_none              where 15 is read, none is there
--   next_unique            there is one next thing
use Prim.Native.Nat.{ℕ, ◌+◌, ◌<◌, ◌≤◌}
use mathlib.Core.Path.{◌≡◌, refl, sym, ap, ap₂, subst, ◌∙◌}
use mathlib.Core.List.{List}
use native.Mathlib.Omega.{arith}
use Rattle.std.specs.Prelude.{Result, Ok, Err}
use lib.ListN.{length, get_or, drop, length-drop}
use Rattle.kinds.specs.declared.Refusal.{Refusal}
use Rattle.text.specs.Number.{NumberIs}
use Rattle.text.specs.Numbers.{Begins, NextIs}
use Rattle.text.specs.declared.Numeral.{Numeral}
use Rattle.text.specs.declared.BadByte.{BadByte}
use Rattle.text.proofs.ReadLaws.{digits_unique, stops_unique, begins_unique}

-- what comes after is as long, so it starts at the same place
same_place : (b : List ℕ) (e f : ℕ) → e ≤ length b → f ≤ length b → drop e b ≡ drop f b → e ≡ f
same_place b e f fits also rest = omega (arith, ap length rest, length-drop e b, length-drop f b)

one_numeral : (x y : Numeral) → x.value ≡ y.value → x.end ≡ y.end → x ≡ y
one_numeral x y v e = let numeral : ℕ → ℕ → Numeral = λ value end. record { value = value; end = end } in ap₂ numeral v e

pub number_unique : (b : List ℕ) (at : ℕ) (r q : Result Numeral BadByte) → NumberIs b at r → NumberIs b at q → r ≡ q
number_unique b at (Ok x) (Ok y) (_, fits, there) (_, also, too) =
    let (value, rest) = digits_unique there too in
    ap Ok (one_numeral x y value (same_place b x.end y.end fits also rest))
number_unique b at (Ok x) (Err f) (_, _, there) (_, _, stops) = absurd (stops.not x.value (drop x.end b) there)
number_unique b at (Err e) (Ok y) (_, _, stops) (_, _, there) = absurd (stops.not y.value (drop y.end b) there)
number_unique b at (Err e) (Err f) (i, at_i, stops) (j, at_j, too) =
    let bad : ℕ → BadByte = λ place. record { 0 = place } in
    ap Err (ap bad (at_i ∙ ap (λ (x : ℕ). at + x) (stops_unique stops too) ∙ sym at_j))

module _ {b : List ℕ} {at : ℕ} where
  pub next_number : {x : Numeral} → NextIs b at (Ok x) → (at < x.end) × (x.end ≤ length b) × Begins (drop at b) x.value (drop x.end b)
  next_number {x} is =
      let (w, e, same, after, fits, there) = is.number refl in
      subst (λ (p : ℕ × ℕ). (at < p.1) × (p.1 ≤ length b) × Begins (drop at b) p.0 (drop p.1 b)) {x = (w, e)} {y = (x.value, x.end)}
      (ap (λ (l : List ℕ). (get_or l 0 0, get_or l 1 0)) (sym same)) (after, fits, there)

  pub next_none : {x : Refusal} → NextIs b at (Err x) → (v : ℕ) (rest : List ℕ) → ¬ Begins (drop at b) v rest
  next_none is = (is.refused _ refl).1

pub next_unique : (b : List ℕ) (at : ℕ) (r q : Result Numeral Refusal) → NextIs b at r → NextIs b at q → r ≡ q
next_unique b at (Ok x) (Ok y) is also =
    let (_, fits, begins) = next_number is in
    let (_, fits_too, too) = next_number also in
    let (value, rest) = begins_unique begins too in
    ap Ok (one_numeral x y value (same_place b x.end y.end fits fits_too rest))
next_unique b at (Ok x) (Err r) is also = absurd (next_none also x.value (drop x.end b) (next_number is).2)
next_unique b at (Err r) (Ok y) is also = absurd (next_none is y.value (drop y.end b) (next_number also).2)
next_unique b at (Err r) (Err q) is also = ap Err ((is.refused r refl).0 ∙ sym (also.refused q refl).0)
