-- What is read of a card.
--   two_places      a number and what ends it take two places at least
--   card? b         whether b is a card, and its numbers
--   is_card         the numbers on a card are its numbers
--   no_card         on bytes that are no card there are none
--   reads_card      what is read of a card
--   reads_none      what is read of bytes that are no card
--   reads_unique    bytes have one reading
--   card_first      a card begins with a number
--   card_second     after its first number comes another
--   card_others     after these two comes a row of numbers
use Prim.Native.Nat.{ℕ, ◌+◌, ◌≤◌}
use mathlib.Core.Path.{◌≡◌, refl, sym, ap, ap₂, subst, ◌∙◌}
use mathlib.Core.List.{List, [], ◌∷◌}
use mathlib.Core.Option.{some-injective}
use Rattle.std.specs.Prelude.{Result, Ok, Err}
use native.Mathlib.Decide.{dec_le}
use native.Mathlib.Omega.{arith}
use lib.ListN.{length, drop, length-append, length-drop}
use Rattle.kinds.specs.Decided.{both}
use Rattle.kinds.specs.declared.Refusal.{Refusal}
use Rattle.kinds.specs.declared.Refusal.TheVariants.{Card}
use Rattle.kinds.proofs.FirstLaws.{first_take, first_skip, first_nil, none_some}
use Rattle.text.specs.Decimal.{decimal}
use Rattle.text.specs.Numbers.{ending, numbers_text, IsRow, Begins}
use Rattle.text.proofs.DecimalLaws.{decimal_some}
use Rattle.text.proofs.RowLaws.{row_next, row_rest, row_unique, row?}
use Rattle.card.specs.Card.{longest, fewest_numbers, IsCard, Readable, numbers_on, unreadable, Reads}
use Rattle.card.specs.declared.Card.{Card as OrderCard}

alike : (c e : OrderCard) → c.n ≡ e.n → c.k ≡ e.k → c.columns.items ≡ e.columns.items → c ≡ e
alike c e n k items =
    let card : ℕ → ℕ → List ℕ → OrderCard = λ n k items. record { n = n; k = k; columns = record { items = items } } in
    ap₂ (λ (f : List ℕ → OrderCard) (items : List ℕ). f items) (ap₂ card n k) items

pub two_places : (b : List ℕ) (at next : ℕ) {v : ℕ} → next ≤ length b → Begins (drop at b) v (drop next b) → at + 2 ≤ next
two_places b at next {v} h g =
    omega (arith, ap length g.bytes, length-append (decimal v) (ending (drop next b) ∷ drop next b), decimal_some v, length-drop at b, length-drop next b)

some_number : {b ns : List ℕ} → IsRow b ns → 1 ≤ length ns → (v : ℕ) × (rest : List ℕ) × Begins b v rest
some_number {ns = []} r h = absurd (omega arith)
some_number {ns = x ∷ xs} r h = (x, numbers_text xs, (row_next r).0)

unfoldable pub card? : (b : List ℕ) → Dec (Readable b)
unfolding dec_le
card? b = elim (row? b) [
  | yes (ns, row) ↦ elim (both (dec_le (length b) longest) (dec_le fewest_numbers (length ns))) [
    | yes (short, enough) ↦ yes (ns, record { short = short; numbers = row; enough = enough })
    | no not ↦ no (λ (ms, is). not (is.short, subst (λ (l : List ℕ). fewest_numbers ≤ length l) (row_unique is.numbers row) is.enough))
  ]
  | no not ↦ no (λ (ns, is). not (ns, is.numbers))
]

module _ {b : List ℕ} where
  pub is_card : {ns : List ℕ} (d : Dec (Readable b)) → IsCard b ns → numbers_on d ≡ ns
  is_card (yes (ms, is)) h = row_unique is.numbers h.numbers
  is_card {ns} (no not) h = absurd (not (ns, h))

  pub no_card : (d : Dec (Readable b)) → ¬ Readable b → numbers_on d ≡ []
  no_card (yes card) not = absurd (not card)
  no_card (no _) not = refl

  pub reads_card : {c : OrderCard} → IsCard b (c.n ∷ c.k ∷ c.columns.items) → Reads b (Ok c)
  reads_card {c} is d = let e = is_card d is in record {
    answer = sym (first_skip (unreadable d) [] (λ not. not (c.n ∷ c.k ∷ c.columns.items, is)) ∙ first_nil);
    card = record { n = rw e refl; k = rw e refl; columns = rw e refl };
  }

  pub reads_none : ¬ Readable b → Reads b (Err Card)
  reads_none not d = record { answer = sym (first_take (unreadable d) [] not); card = tt }

  pub reads_unique : (r q : Result OrderCard Refusal) → Reads b r → Reads b q → r ≡ q
  reads_unique (Ok c) (Ok e) reads also =
      let s = (reads (card? b)).card in
      let t = (also (card? b)).card in
      ap Ok (alike c e (s.n ∙ sym t.n) (s.k ∙ sym t.k) (s.columns ∙ sym t.columns))
  reads_unique (Ok c) (Err x) reads also = none_some ((reads (card? b)).answer ∙ sym (also (card? b)).answer)
  reads_unique (Err x) (Ok c) reads also = none_some ((also (card? b)).answer ∙ sym (reads (card? b)).answer)
  reads_unique (Err x) (Err y) reads also = ap Err (some-injective _ _ ((reads (card? b)).answer ∙ sym (also (card? b)).answer))

  pub card_first : {ns : List ℕ} → IsCard b ns → (v : ℕ) × (rest : List ℕ) × Begins b v rest
  card_first is = some_number is.numbers (omega (arith, is.enough))

  pub card_second : {ns rest : List ℕ} {n : ℕ} → Begins b n rest → IsCard b ns → (v : ℕ) × (after : List ℕ) × Begins rest v after
  card_second g is = let (xs, r, e) = row_rest g is.numbers in some_number r (omega (arith, is.enough, ap length e))

  pub card_others : {ns rest after : List ℕ} {n k : ℕ} → Begins b n rest → Begins rest k after → IsCard b ns → (C : List ℕ) × IsRow after C
  card_others g f is =
      let (xs, r, _) = row_rest g is.numbers in
      let (C, s, _) = row_rest f r in
      (C, s)
