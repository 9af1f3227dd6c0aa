-- When a sheet is refused (01, 'When a tool says no').
--   broken_layout e n k s        5: the sheet breaks the layout
--   sheet_lengths e s            the length of a lent sheet, and what it should be: "sheet 64"
--   sheet_table e n k s beside   1, 2 and 5, where the lengths lent beside the sheet, and what they should be, are beside
use Rattle.std.specs.Prelude.{ℕ, List, [], ◌∷◌, ◌++◌, length}
use Rattle.kinds.specs.Edition.{Edition, sheet_places, Sized}
use Rattle.kinds.specs.Decisions.{sized?}
use Rattle.kinds.specs.First.{Reason, unless}
use Rattle.kinds.specs.Reasons.{outside, wrong_length}
use Rattle.kinds.specs.declared.Refusal.TheVariants.{Layout}
use Rattle.kinds.specs.Lengths.{Wanted, exactly}
use Rattle.sheet.specs.Layout.{WellFormed}
use Rattle.sheet.specs.Decisions.{well_formed?}

abbrev pub broken_layout : Edition → ℕ → ℕ → List ℕ → Reason
broken_layout e n k s = unless Layout (WellFormed e n k s) (well_formed? e n k s)

abbrev pub sheet_lengths : Edition → List ℕ → List (ℕ × Wanted)
sheet_lengths e s = (length s, exactly (sheet_places e)) ∷ []

abbrev pub sheet_table : Edition → ℕ → ℕ → List ℕ → List (ℕ × Wanted) → List Reason
sheet_table e n k s beside = outside (Sized e n k) (sized? e n k) ∷ wrong_length (sheet_lengths e s ++ beside) ∷ broken_layout e n k s ∷ []
