use Rattle.std.proofs.Common.{ℕ, ◌+◌, ◌*◌, ◌/◌, ◌%◌, ◌^◌, ◌≤◌, ◌<◌, ◌≡◌, List, [], ◌∷◌, ◌++◌, length, get_or, take, sym, ap, ◌∙◌, arith, append_assoc, append-nil, length-append, length-take, get_or-take, pow_mono}
use Rattle.std.proofs.lemmas.List.{take_min}
use Rattle.std.proofs.Math.Nat.{min_comm}
use native.Mathlib.Nat.{div-eq_of_lt}
use Rattle.bits.specs.Padded.{array_width}
use Rattle.bits.specs.Parity.{dot}
use Rattle.bits.proofs.ParityLaws.{dot_unit}
use Rattle.span.specs.Rows.{row as row_in}
use Rattle.span.proofs.RowLaws.{dots_none, row_nil, row_cons, row_dots, row_lt}
use Rattle.rows.proofs.row.Invariants.{Crossed}
use Rattle.rows.proofs.row.Goals as goal

-- beyond the bits that numbers have
none_there : (numbers : List ℕ) (i : ℕ) → ((j : ℕ) → get_or numbers j 0 < 2 ^ 16) → array_width ≤ i → row_in (take array_width numbers) i ≡ 0
none_there numbers i below h =
    row_dots (take array_width numbers) i
    ∙ dots_none (take array_width numbers) (2 ^ i)
    (λ j inside.
    let number = get_or numbers j 0 in
    let here : j < array_width = omega (arith, length-take array_width numbers) in
    ap (λ (x : ℕ). dot x (2 ^ i)) (get_or-take array_width numbers j 0 here)
    ∙ dot_unit i number
    ∙ ap (λ (x : ℕ). x % 2) (div-eq_of_lt (omega (arith, below j, pow_mono {i = 16} {j = i} h))))

module _ {numbers left : List ℕ} {i row : ℕ} (r : Crossed numbers i row left) where
  fits : length numbers ≤ 16 → row < 2 ^ 16
  fits few =
      let short : length r.passed ≤ 16 = omega (arith, few, ap length r.whole, length-append left r.passed) in
      omega (arith, r.so_far, row_lt r.passed i, pow_mono {i = length r.passed} {j = 16} short)

  more : (rest : List ℕ) (number : ℕ) → left ≡ rest ++ (number ∷ []) → Crossed numbers i (2 * row + number / 2 ^ i % 2) rest
  more rest number e = record {
    passed = number ∷ r.passed;
    whole = r.whole ∙ rw e (append_assoc rest (number ∷ []) r.passed);
    so_far = omega (arith, r.so_far, row_cons number r.passed i);
  }

pub returns-then-i-ge-WIDTH : goal.returns-then-i-ge-WIDTH
returns-then-i-ge-WIDTH c = sym (none_there c.args.numbers.now c.args.i (λ j. (c.type_inv.numbers j).fits) c.if-i-ge-WIDTH.true)

pub loop-number-init : goal.loop-number-init
loop-number-init c =
    let numbers = c.args.numbers.now in
    let first : take c.min.result numbers ≡ take array_width numbers = rw (c.min.ensures, min_comm (length numbers) array_width) (take_min array_width numbers) in
    rw (c.into_iter-number-iterator.ensures.into_iter_gives, c.rev-number-items.ensures.source, c.iter.ensures.rest)
    (record { passed = []; whole = rw first (sym (append-nil _)); so_far = sym (row_nil c.args.i) })

pub loop-number-preserved : goal.loop-number-preserved
loop-number-preserved c = more c.loop-number.invariant _ _ c.in-Some.ensures.steps

pub overflow_mul-row : goal.overflow_mul-row
overflow_mul-row c = omega (arith, length-take array_width c.args.numbers.now, fits (more c.loop-number.invariant _ _ c.in-Some.ensures.steps) (omega (arith, length-take array_width c.args.numbers.now)))

pub overflow_add-row : goal.overflow_add-row
overflow_add-row c = omega (arith, fits (more c.loop-number.invariant _ _ c.in-Some.ensures.steps) (omega (arith, length-take array_width c.args.numbers.now)))
