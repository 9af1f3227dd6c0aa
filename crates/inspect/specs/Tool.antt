-- What the inspector promises.
--   inspect_table e n k C s     "Inspector: 1 to 9", of the columns C and the sheet s
--   Inspectable e n k C s      none of 1 to 5 applies: sizes and lengths are right, C is an order, and s keeps the layout
--   Inspects e n k C s r       the inspector: r is the lowest of 1 to 9 that applies, and done ("for the inspector, passed") where none does. What it passes is inspectable; and what is inspectable
--                              it passes exactly when the sheet is right for the order. "Every passed sheet has at least k - rank P1 read stages"
--   OpensPassed e n k C s r    the inspector, where of a sheet that is passed r shows both sides
use Rattle.std.specs.Prelude.{ℕ, ◌+◌, ◌≤◌, ◌≡◌, List, ◌∷◌, ◌++◌, ◌↔◌, length, Result, IsOk, IfOk}
use Rattle.kinds.specs.Edition.{Edition, Sized, sheet_places}
use Rattle.kinds.specs.Decisions.{sized?}
use Rattle.kinds.specs.First.{Reason, first_of}
use Rattle.kinds.specs.Refusal.{said}
use Rattle.kinds.specs.declared.Refusal.{Refusal}
use Rattle.span.specs.Scan.{rank}
use Rattle.order.specs.Order.{Order}
use Rattle.parts.specs.Parts.{rows_p1}
use Rattle.order.specs.Table.{order_table}
use Rattle.sheet.specs.Sheet.{read_side}
use Rattle.sheet.specs.Layout.{WellFormed}
use Rattle.sheet.specs.Table.{broken_layout, sheet_lengths}
use Rattle.maps.specs.Opened.{ShowsBoth}
use Rattle.maps.specs.declared.Sides.{Sides}
use Rattle.promise.specs.Right.{Right}
use Rattle.realise.specs.Realises.{map_table}

abbrev pub inspect_table : Edition → ℕ → ℕ → List ℕ → List ℕ → List Reason
inspect_table e n k C s = order_table (Sized e n k) (sized? e n k) n C (sheet_lengths e s) ++ broken_layout e n k s ∷ map_table e n k C s

pub record Inspectable (e : Edition) (n k : ℕ) (C s : List ℕ) : Type 0 where
  pub sized : Sized e n k
  pub order : Order n C
  pub places : length s ≡ sheet_places e
  pub formed : WellFormed e n k s

pub record Inspects {A : Type 0} (e : Edition) (n k : ℕ) (C s : List ℕ) (r : Result A Refusal) : Type 0 where
  pub is_first : said r ≡ first_of (inspect_table e n k C s)
  pub inspectable : IsOk r → Inspectable e n k C s
  pub exact : Inspectable e n k C s → IsOk r ↔ Right e n k C s
  pub stages : IsOk r → k ≤ rank (rows_p1 k C) + length (read_side e n k s).stages

pub record OpensPassed (e : Edition) (n k : ℕ) (C s : List ℕ) (r : Result Sides Refusal) : Type 0 where
  pub answer : Inspects e n k C s r
  pub sides : IfOk r (ShowsBoth e n k s)
