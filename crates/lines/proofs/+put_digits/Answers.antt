-- Past the branch the last digit is left to write.
use Rattle.std.proofs.Common.{List, ℕ, [], ◌∷◌, ◌≡◌, ◌/◌, ◌%◌, ◌≤◌, ◌<◌, length, refl, ap, arith, length-append}
use native.Mathlib.Nat.{mod-eq_of_lt}
use Rattle.text.specs.Decimal.{digit, decimal}
use Rattle.text.proofs.DecimalLaws.{decimal_small, decimal_more}
use Rattle.lines.specs.Written.{RoomFor, Writes}
use Rattle.lines.proofs.WriteLaws.{Left, writes_none, writes_byte, left_all, left_more, left_done}
use Rattle.lines.proofs.+put_digits.Goals as goal
use Rattle.lines.proofs.+put_digits.Goals.{then-number-ge10, else-number-ge10}

abbrev last : ℕ → List ℕ
last number = digit (number % 10) ∷ []

module _ {number at place : ℕ} {x text : List ℕ} (fits : RoomFor (decimal number) at x) where
  small : number < 10 → place ≡ at → text ≡ x → Left (decimal number) at x (last number) place text
  small h p e = rw (p, e) (left_more (left_all fits) (rw (decimal_small number h, mod-eq_of_lt h)) writes_none)

  more : {y : List ℕ} {r : ℕ} → 10 ≤ number → Writes (decimal (number / 10)) at x y r → place ≡ r → text ≡ y → Left (decimal number) at x (last number) place text
  more h wrote p e = rw (p, e) (left_more (left_all fits) (decimal_more number h) wrote)

shorter : (number : ℕ) → 10 ≤ number → length (decimal (number / 10)) ≤ length (decimal number)
shorter number h = omega (arith, length-append (decimal (number / 10)) (last number), ap length (decimal_more number h))

pub put_digits-place-requires : goal.put_digits-place-requires
put_digits-place-requires t c = omega (arith, shorter c.args.number (omega arith))

pub bounds-text-place : goal.bounds-text-place
bounds-text-place t c = elim c.if-number-ge10.branch [
  | then-number-ge10 w ↦ omega (arith, more c.requires (omega arith) w.put_digits-place.ensures w.place-is w.text-is)
  | else-number-ge10 w ↦ omega (arith, small c.requires (omega arith) w.place-is w.text-is)
]

pub overflow_add-result : goal.overflow_add-result
overflow_add-result t c = elim c.if-number-ge10.branch [
  | then-number-ge10 w ↦ omega (arith, more c.requires (omega arith) w.put_digits-place.ensures w.place-is w.text-is)
  | else-number-ge10 w ↦ omega (arith, small c.requires (omega arith) w.place-is w.text-is)
]

pub returns : goal.returns
returns t c =
    let left : Left (decimal c.args.number) c.args.at c.args.text.now (last c.args.number) c.if-number-ge10.place c.if-number-ge10.text = elim c.if-number-ge10.branch [
      | then-number-ge10 w ↦ more c.requires (omega arith) w.put_digits-place.ensures w.place-is w.text-is
      | else-number-ge10 w ↦ small c.requires (omega arith) w.place-is w.text-is
    ] in
    left_done (left_more left refl writes_byte) refl
