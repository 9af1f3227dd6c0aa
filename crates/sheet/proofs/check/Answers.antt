-- It goes down the table of 1, 2 and 5; past each test the reason does not apply.
use Rattle.std.proofs.Common.{ℕ, ◌-◌, ◌≡◌, ◌++◌, ◌∙◌, arith, sym, ap, inl, inr, Bool, true, List, length, take, drop, Err}
use Rattle.std.proofs.Math.Option.{Option, none, some}
use Rattle.std.proofs.lemmas.Result.{err_from_is_err_and}
use lib.ListN.{length-take}
use Rattle.kinds.specs.Edition.{edition1, Sized, sheet_places}
use Rattle.kinds.specs.Lengths.{Wanted, RightLengths}
use Rattle.kinds.specs.Answers.{Says}
use Rattle.kinds.specs.First.{first_of}
use Rattle.kinds.specs.declared.Refusal.{Refusal}
use Rattle.kinds.specs.declared.Refusal.TheVariants.{Sizes, Length, Layout}
use Rattle.kinds.proofs.TruthLaws.{denied}
use Rattle.kinds.proofs.FirstLaws.{first_take, first_skip}
use Rattle.sheet.specs.Sheet.{read_places}
use Rattle.sheet.specs.Layout.{FormedSide, WellFormed}
use Rattle.sheet.specs.Table.{sheet_lengths, sheet_table}
use Rattle.sheet.proofs.PlaceLaws.{last_part}
use Rattle.sheet.proofs.TableLaws.{sheet_sound}
use Rattle.sheet.proofs.check.Goals as goal
use Rattle.sheet.proofs.check.Goals.{then-not-side_formed-via-then-not-side_formed, then-not-side_formed-via-else-not-side_formed+then-not-side_formed-2}

module _ (n k : ℕ) (s : List ℕ) (fits : Bool) where
  abbrev Answered : Option Refusal → Type 0
  Answered o = (others : List (ℕ × Wanted)) → Says fits (RightLengths others) → o ≡ first_of (sheet_table edition1 n k s others)

  outside_sizes_law : ¬ Sized edition1 n k → Answered (some Sizes)
  outside_sizes_law out others f = sym (first_take _ _ out)

  module _ (sized : Sized edition1 n k) where
    wrong_length_law : ((others : List (ℕ × Wanted)) → Says fits (RightLengths others) → ¬ RightLengths (sheet_lengths edition1 s ++ others))
        → Answered (some Length)
    wrong_length_law wrong others f = sym (first_skip _ _ (λ out. out sized) ∙ first_take _ _ (wrong others f))

    module _ (fit : fits ≡ true) (places : length s ≡ sheet_places edition1) where
      broken : ¬ WellFormed edition1 n k s → Answered (some Layout)
      broken b others f = sym (first_skip _ _ (λ out. out sized) ∙ first_skip _ _ (λ wrong. wrong (places, f.0 fit)) ∙ first_take _ _ b)

      right : WellFormed edition1 n k s → Answered none
      right formed others f = sym ((sheet_sound edition1 n k s others).1 (sized, (places, f.0 fit), formed))

read_says : {n k : ℕ} (s : List ℕ) {b : Bool} → Says b (FormedSide edition1 n k (take (length s - 32) (drop 32 s))) → Says b (FormedSide edition1 n k (read_places edition1 s))
read_says s says = rw (← last_part s 0 32) says

pub returns-in_err-sizes-clause-answer : goal.returns-in_err-sizes-clause-answer
returns-in_err-sizes-clause-answer c =
    let (_, is, same) = err_from_is_err_and c.from_residual.result c.from_residual.ensures.1 in
    let sizes = c.in_err-sizes.ensures.no_other in
    rw (is, same, sizes) (outside_sizes_law _ _ _ _ (c.in_err-sizes.ensures.refused.0 (ap Err sizes)))

pub slice_bounds-side_formed-end : goal.slice_bounds-side_formed-end
slice_bounds-side_formed-end c = simp length-take (omega arith)

pub side_formed-requires : goal.side_formed-requires
side_formed-requires c = record { places = simp length-take (omega arith) }

pub returns-then-not-fits-clause-answer : goal.returns-then-not-fits-clause-answer
returns-then-not-fits-clause-answer c =
    let (same_n, same_k) = c.in_ok-sizes.ensures.sizes in
    rw (← same_n) (rw (← same_k) (wrong_length_law _ _ _ _ c.in_ok-sizes.sizes.sized
    (λ others f right. elim c.then-not-fits.either [ inl not ↦ denied f not right.1 | inr wrong ↦ wrong.1 right.0 ])))

pub returns-then-not-side_formed-clause-answer : goal.returns-then-not-side_formed-clause-answer
returns-then-not-side_formed-clause-answer c =
    let (same_n, same_k) = c.in_ok-sizes.ensures.sizes in
    rw (← same_n) (rw (← same_k) (broken _ _ _ _ c.in_ok-sizes.sizes.sized c.if-not-fits.false c.if-sheet-ne-SHEET.false
    (λ formed. elim c.then-not-side_formed.branch [
      | then-not-side_formed-via-then-not-side_formed w ↦ denied c.side_formed.ensures w.if-not-side_formed.true formed.write
      | then-not-side_formed-via-else-not-side_formed+then-not-side_formed-2 w ↦
          denied (read_says c.args.sheet.now w.side_formed-else-not-side_formed.ensures) w.if-not-side_formed-2.true formed.read
    ])))

pub returns-clause-answer : goal.returns-clause-answer
returns-clause-answer c =
    let (same_n, same_k) = c.in_ok-sizes.ensures.sizes in
    rw (← same_n) (rw (← same_k) (right _ _ _ _ c.in_ok-sizes.sizes.sized c.if-not-fits.false c.if-sheet-ne-SHEET.false
    (record {
      write = c.side_formed.ensures.0 c.if-not-side_formed.false;
      read = (read_says c.args.sheet.now c.side_formed-else-not-side_formed.ensures).0 c.if-not-side_formed-2.false;
    })))
