-- It goes down the table from 2 to 4; past each test the reason does not apply.
use Rattle.std.proofs.Common.{ℕ, ◌^◌, ◌≤◌, ◌≡◌, Bool, true, List, [], ◌∷◌, length, refl, sym, ◌∙◌, arith}
use mathlib.Core.Option.{Option, none, some}
use Rattle.kinds.specs.First.{first_of}
use Rattle.kinds.specs.Lengths.{Wanted, exactly, RightLengths}
use Rattle.kinds.specs.Answers.{Says}
use Rattle.kinds.specs.declared.Refusal.{Refusal}
use Rattle.kinds.specs.declared.Refusal.TheVariants.{Length, TooLarge, Dependent}
use Rattle.kinds.proofs.TruthLaws.{denied, stable}
use Rattle.kinds.proofs.FirstLaws.{first_nil, first_take, first_skip}
use Rattle.bits.specs.Image.{AllBelow}
use Rattle.span.specs.Sums.{Independent}
use Rattle.span.specs.Decisions.{independent?}
use Rattle.span.specs.First.{first_sum}
use Rattle.span.specs.Scan.{mask}
use Rattle.span.specs.Tools.{most_scanned}
use Rattle.span.proofs.MaskLaws.{masks_length}
use Rattle.span.proofs.ToolLaws.{scans_all, scans_masks}
use Rattle.rows.proofs.KeptLaws.{first_named, none_named}
use Rattle.order.specs.Order.{ColumnTooLarge}
use Rattle.order.specs.Table.{column_table}
use Rattle.order.proofs.TableLaws.{too_large}
use Rattle.order.proofs.check_columns.Goals.{then-not-fits-via-then-not-fits, then-not-fits-via-else-not-fits+then-columns-n}
use Rattle.order.proofs.check_columns.Goals as goal

module _ (n : ℕ) (C : List ℕ) (fits : Bool) where
  abbrev Answered : Option Refusal → Type 0
  Answered o = (others : List (ℕ × Wanted)) → Says fits (RightLengths others) → o ≡ first_of (column_table n (C ∷ []) others)

  wrong_length_law : ((others : List (ℕ × Wanted)) → Says fits (RightLengths others) → ¬ RightLengths ((length C, exactly n) ∷ others)) → Answered (some Length)
  wrong_length_law wrong others f = sym (first_take _ _ (wrong others f))

  module _ (fit : fits ≡ true) (count : length C ≡ n) where
    large : ColumnTooLarge n C → Answered (some TooLarge)
    large beyond others f = sym (first_skip _ _ (λ wrong. wrong (count, f.0 fit)) ∙ first_take _ _ beyond)

    module _ (small : AllBelow (2 ^ n) C) where
      dependent : ¬ Independent C → Answered (some (Dependent (first_sum C) (mask C (first_sum C))))
      dependent dep others f =
          sym (first_skip _ _ (λ wrong. wrong (count, f.0 fit)) ∙ first_skip _ _ (λ (j, l, beyond). omega (arith, small j l, beyond)) ∙ first_take _ _ dep)

      right : Independent C → Answered none
      right independent others f =
          sym (first_skip _ _ (λ wrong. wrong (count, f.0 fit)) ∙ first_skip _ _ (λ (j, l, beyond). omega (arith, small j l, beyond)) ∙ first_skip _ _ (λ dep. dep independent) ∙ first_nil)

pub returns-then-not-fits : goal.returns-then-not-fits
returns-then-not-fits c = record {
  answer = wrong_length_law _ _ _ (λ others f right. elim c.then-not-fits.branch [
    | then-not-fits-via-then-not-fits w ↦ denied f w.if-not-fits.true right.1
    | then-not-fits-via-else-not-fits+then-columns-n w ↦ w.if-columns-n.true right.0
  ]);
  holds = tt;
}

pub returns-then-not-within_bits : goal.returns-then-not-within_bits
returns-then-not-within_bits c = record {
  answer = large _ _ _ c.if-not-fits.false c.if-columns-n.false (too_large c.args.n c.args.columns.now (denied c.within_bits.ensures c.if-not-within_bits.true));
  holds = tt;
}

pub returns-in-Some : goal.returns-in-Some
returns-in-Some c =
    let C = c.args.columns.now in
    let few : length C ≤ most_scanned = omega (arith, c.requires, c.if-columns-n.false) in
    let named = rw (scans_masks c.scan_all-scanned.ensures few) at c.first_sum.ensures in
    let dep : ¬ Independent C = λ independent. cc (none_named C named independent, c.in-Some.is) in
    let sum : c.in-Some.sum ≡ record { at = first_sum C; mask = mask C (first_sum C) } = cc (first_named named C (omega (arith, masks_length C)) (λ i. refl) dep, c.in-Some.is) in
    record {
      answer = rw sum (dependent _ _ _ c.if-not-fits.false c.if-columns-n.false (c.within_bits.ensures.0 c.if-not-within_bits.false) dep);
      holds = tt;
    }

pub returns : goal.returns
returns c =
    let C = c.args.columns.now in
    let few : length C ≤ most_scanned = omega (arith, c.requires, c.if-columns-n.false) in
    let named = rw (scans_masks c.scan_all-scanned.ensures few) at c.first_sum.ensures in
    let independent : Independent C = stable (independent? C) (λ dep. c.in_default.not-Some _ (first_named named C (omega (arith, masks_length C)) (λ i. refl) dep)) in
    record {
      answer = right _ _ _ c.if-not-fits.false c.if-columns-n.false (c.within_bits.ensures.0 c.if-not-within_bits.false) independent;
      holds = scans_all c.scan_all-scanned.ensures few;
    }
