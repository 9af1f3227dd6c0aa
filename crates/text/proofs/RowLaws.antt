-- Rows of numbers, taken apart number by number.
--   begins_shorter    what comes after the first number is shorter than the whole
--   row_next          a row of x and xs begins with x, and xs comes after
--   row_step          a number before a row makes a row
--   row_none          no bytes are the row of no numbers
--   row_nil           and of no others
--   row_rest          what comes after the first number of a row is the row of the others
--   row_unique        bytes are a row of one list of numbers at most
--   row_begins        a row that has a byte begins with a number
--   row? b            whether b is a row of numbers, and of which
use Prim.Native.Nat.{ℕ, zero, suc, ◌<◌}
use mathlib.Core.Path.{◌≡◌, refl, sym, ap, ◌∙◌}
use mathlib.Core.List.{List, [], ◌∷◌, ◌++◌}
use mathlib.Core.Logic.{◌↔◌}
use native.Mathlib.Omega.{arith}
use lib.ListN.{length, length-append}
use Rattle.text.specs.Decimal.{decimal}
use Rattle.text.specs.Numbers.{ending, numbers_text, IsRow, Begins}
use Rattle.text.proofs.ReadLaws.{begins_unique, begins?}

pub begins_shorter : {b rest : List ℕ} {v : ℕ} → Begins b v rest → length rest < length b
begins_shorter {rest = rest} {v} g = omega (arith, ap length g.bytes, length-append (decimal v) (ending rest ∷ rest))

pub row_next : {b xs : List ℕ} {x : ℕ} → IsRow b (x ∷ xs) → Begins b x (numbers_text xs) × IsRow (numbers_text xs) xs
unfolding numbers_text
row_next r = (record { number = r.numbers.0; bytes = r.bytes }, record { bytes = refl; numbers = r.numbers.1 })

pub row_step : {b rest ns : List ℕ} {v : ℕ} → Begins b v rest → IsRow rest ns → IsRow b (v ∷ ns)
unfolding numbers_text
row_step {v = v} g r = record { bytes = g.bytes ∙ ap (λ (rest : List ℕ). decimal v ++ (ending rest ∷ rest)) r.bytes; numbers = (g.number, r.numbers) }

pub row_none : IsRow [] []
unfolding numbers_text
row_none = record { bytes = refl; numbers = tt }

row_shorter : (x : ℕ) (xs : List ℕ) → length (numbers_text xs) < length (numbers_text (x ∷ xs))
unfolding numbers_text
row_shorter x xs = omega (arith, length-append (decimal x) (ending (numbers_text xs) ∷ numbers_text xs))

pub row_nil : (ns : List ℕ) → numbers_text ns ≡ [] ↔ ns ≡ []
row_nil [] = (λ e. refl, λ e. sym row_none.bytes)
row_nil (x ∷ xs) = (λ e. absurd (omega (arith, ap length e, row_shorter x xs)), λ e. absurd (omega (arith, ap length e)))

pub row_rest : {b rest ns : List ℕ} {v : ℕ} → Begins b v rest → IsRow b ns → (xs : List ℕ) × IsRow rest xs × (ns ≡ v ∷ xs)
row_rest {ns = []} g r = absurd (omega (arith, begins_shorter g, ap length (r.bytes ∙ sym row_none.bytes)))
row_rest {ns = x ∷ xs} g r =
    let (first, others) = row_next r in
    let (number, after) = begins_unique first g in
    (xs, rw after at others, ap (λ (v : ℕ). v ∷ xs) number)

pub row_unique : {ns b ms : List ℕ} → IsRow b ns → IsRow b ms → ns ≡ ms
row_unique {ns = []} {ms} r s = sym ((row_nil ms).0 (sym s.bytes ∙ r.bytes ∙ sym row_none.bytes))
row_unique {ns = x ∷ xs} r s =
    let (first, others) = row_next r in
    let (ys, rest, e) = row_rest first s in
    ap (λ (zs : List ℕ). x ∷ zs) (row_unique {ns = xs} others rest) ∙ sym e

further : {b rest : List ℕ} {v : ℕ} → Begins b v rest → Dec ((xs : List ℕ) × IsRow rest xs) → Dec ((ns : List ℕ) × IsRow b ns)
further {v = v} g (yes (xs, r)) = yes (v ∷ xs, row_step g r)
further g (no n) = no (λ (ns, r). let (xs, rest, _) = row_rest g r in n (xs, rest))

pub row_begins : {c : ℕ} {b ns : List ℕ} → IsRow (c ∷ b) ns → (v : ℕ) × (rest : List ℕ) × Begins (c ∷ b) v rest
row_begins {ns = []} r = absurd (omega (arith, ap length (r.bytes ∙ sym row_none.bytes)))
row_begins {ns = x ∷ xs} r = (x, numbers_text xs, (row_next r).0)

row_in : (m : ℕ) (b : List ℕ) → length b < m → Dec ((ns : List ℕ) × IsRow b ns)
unfolding begins? further
row_in zero b h = absurd (omega arith)
row_in (suc m) [] h = yes ([], row_none)
row_in (suc m) (c ∷ b) h = elim (begins? (c ∷ b)) [
  | yes (v, rest, g) ↦ further g (row_in m rest (omega (arith, begins_shorter g)))
  | no n ↦ no (λ (ns, r). n (row_begins r))
]

unfoldable pub row? : (b : List ℕ) → Dec ((ns : List ℕ) × IsRow b ns)
unfolding row_in
row? b = row_in (suc (length b)) b (omega arith)
