-- The table of 1, 2 and 5.
--   sheet_ascending     the table's numbers go up, so the first that applies is the lowest
--   sheet_sound         none applies exactly when the sizes are right, every lent length is, and the sheet keeps the layout
--   check_sound         so a sheet whose check was done has the right sizes and length, and keeps the layout
use Prim.Native.Nat.{ℕ}
use Rattle.std.specs.Prelude.{Result, IsOk}
use mathlib.Core.Path.{◌≡◌, sym, ◌∙◌}
use mathlib.Core.Bool.{Bool}
use mathlib.Core.List.{List, ◌++◌}
use mathlib.Core.Logic.{◌↔◌}
use mathlib.Core.Option.{none}
use native.Mathlib.Omega.{arith}
use lib.ListN.{length}
use Rattle.kinds.specs.Edition.{Edition, Sized, sheet_places}
use Rattle.kinds.specs.Decisions.{sized?, right_lengths?}
use Rattle.kinds.specs.Answers.{Checks}
use Rattle.kinds.specs.declared.Refusal.{Refusal}
use Rattle.kinds.specs.First.{first_of, Ascending}
use Rattle.kinds.specs.Lengths.{Wanted, RightLengths}
use Rattle.kinds.proofs.TruthLaws.{stable}
use Rattle.kinds.proofs.AnswerLaws.{done_none, some_lengths}
use Rattle.kinds.proofs.FirstLaws.{first_none}
use Rattle.sheet.specs.Layout.{WellFormed}
use Rattle.sheet.specs.Decisions.{well_formed?}
use Rattle.sheet.specs.Table.{sheet_lengths, sheet_table}

module _ (e : Edition) (n k : ℕ) (s : List ℕ) (others : List (ℕ × Wanted)) where
  pub sheet_ascending : Ascending (sheet_table e n k s others)
  sheet_ascending = ((omega arith, (omega arith, tt)), ((omega arith, tt), (tt, tt)))

  pub sheet_sound : first_of (sheet_table e n k s others) ≡ none ↔ (Sized e n k × RightLengths (sheet_lengths e s ++ others) × WellFormed e n k s)
  sheet_sound = (
    λ none_given.
        let none_applies = (first_none (sheet_table e n k s others)).0 none_given in (
          stable (sized? e n k) none_applies.0,
          stable (right_lengths? (sheet_lengths e s ++ others)) none_applies.1.0,
          stable (well_formed? e n k s) none_applies.1.1.0,
        ),
    λ (sized, right, formed).
        (first_none (sheet_table e n k s others)).1 (λ out. out sized, (λ wrong. wrong right, (λ broken. broken formed, tt))),
  )

pub check_sound : {e : Edition} {n k : ℕ} {s : List ℕ} {A : Type 0} (r : Result A Refusal) (fits : Bool) → Checks (sheet_table e n k s) fits r → IsOk r
    → Sized e n k × (length s ≡ sheet_places e) × WellFormed e n k s
check_sound {e} {n} {k} {s} r fits c d =
    let (others, says) = some_lengths fits in
    let (sized, right, formed) = (sheet_sound e n k s others).0 (sym (c others says) ∙ done_none r d) in
    (sized, right.0, formed)
