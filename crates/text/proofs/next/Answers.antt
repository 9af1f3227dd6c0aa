-- The digits are there or not, and the byte after them ends the number or doesn't.
use Rattle.std.proofs.Common.{List, ℕ, Err, ◌≡◌, ◌+◌, ◌≤◌, ◌<◌, ◌∷◌, length, get_or, drop, sym, ap, ◌∙◌, arith, add-one, drop-cons}
use mathlib.Core.Option.{some, none-ne-some, some-injective}
use lib.ListN.{drop_of_length-le}
use Rattle.kinds.specs.declared.Refusal.TheVariants.{Card}
use Rattle.text.specs.Number.{NumeralAt}
use Rattle.text.specs.Numbers.{ending, Begins, NextIs}
use Rattle.text.proofs.ReadLaws.{digits_unique, begins_digits}
use Rattle.text.proofs.next.Goals as goal
use Rattle.text.proofs.next.Goals.{else-end-card-via-then-end-card+else-card-end, else-end-card-via-else-end-card}

module _ (b : List ℕ) (at v e : ℕ) (read : NumeralAt b at (some v) e) where
  nothing : ((w : ℕ) (rest : List ℕ) → ¬ Begins (drop at b) w rest) → NextIs b at (Err Card)
  nothing not = record { number = λ e. absurd (none-ne-some _ (sym e)); refused = λ x e. (sym (some-injective _ _ e), not) }

  past : length b ≤ e → NextIs b at (Err Card)
  past h =
      nothing (λ w rest g. omega (arith, ap length (digits_unique (begins_digits g) read.2).1, ap length (drop_of_length-le b {i = e} h)))

  module _ (h : e < length b) where
    here : drop e b ≡ get_or b e 0 ∷ drop (e + 1) b
    here = rw (add-one, drop-cons b e 0 h)

    other : ¬ (get_or b e 0 ≡ ending (drop (e + 1) b)) → NextIs b at (Err Card)
    other not =
        nothing (λ w rest g.
        let same = sym here ∙ sym (digits_unique (begins_digits g) read.2).1 in
        not (ap (λ (l : List ℕ). get_or l 0 0) same ∙ ap ending (sym (ap (drop 1) same))))

pub returns : goal.returns
returns c =
    elim c.else-end-card.branch [
      | else-end-card-via-then-end-card+else-card-end w ↦ other _ _ _ _ c.in-Ok.ensures (omega arith) (λ e. omega (arith, w.ending.ensures))
      | else-end-card-via-else-end-card w ↦ past _ _ _ _ c.in-Ok.ensures (omega arith)
    ]
