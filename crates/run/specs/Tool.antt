-- The run as a tool: a call with a sheet, and what is answered.
--   check_table e n k s st l    1, 2, 5 and 10, where the sheet s and the state st are lent, and the lengths beside the sheet's are l
--   ChecksRun e n k s st l r   the check that a run begins with: r has the first of these that applies; where none does, r shows both sides
--   before_faults e n k s b     1, 2, 5 and 10, of what a call is lent, b
--   sheet_call e n k s b        a call of the run with the sheet s: 1, 2, 5 and 10 to 14
--   Runs e n k s b l           the tool: what it leaves, l, is what comes of that call
use Rattle.std.specs.Prelude.{ℕ, ◌≡◌, List, [], ◌∷◌, ◌++◌, Result, IfOk}
use Rattle.kinds.specs.Edition.{Edition}
use Rattle.kinds.specs.Frame.{ticks}
use Rattle.kinds.specs.First.{Reason, first_of}
use Rattle.kinds.specs.Refusal.{said}
use Rattle.kinds.specs.declared.Refusal.{Refusal}
use Rattle.sheet.specs.Table.{sheet_table}
use Rattle.switches.specs.Cells.{M, N}
use Rattle.maps.specs.Opened.{ShowsBoth}
use Rattle.maps.specs.declared.Sides.{Sides}
use Rattle.state.specs.Table.{impossible}
use Rattle.state.specs.declared.State.{State}
use Rattle.call.specs.Call.{Outcome, call}
use Rattle.lent.specs.Lent.{Lent, lengths_of, run_lengths}
use Rattle.lent.specs.declared.Lengths.{Lengths}
use Rattle.call.specs.Tool.{After, ComesOf}

abbrev pub check_table : Edition → ℕ → ℕ → List ℕ → State → Lengths → List Reason
check_table e n k s st l = sheet_table e n k s (run_lengths n k l) ++ impossible (ticks n k) st ∷ []

pub record ChecksRun (e : Edition) (n k : ℕ) (s : List ℕ) (st : State) (l : Lengths) (r : Result Sides Refusal) : Type 0 where
  pub answer : said r ≡ first_of (check_table e n k s st l)
  pub sides : IfOk r (ShowsBoth e n k s)

abbrev pub before_faults : Edition → ℕ → ℕ → List ℕ → Lent → List Reason
before_faults e n k s b = check_table e n k s b.state (lengths_of b)

abbrev pub sheet_call : Edition → ℕ → ℕ → List ℕ → Lent → Outcome
sheet_call e n k s b = call (before_faults e n k s b) n k (M e n k s) (N e n k s) b.state b.came b.memory

abbrev pub Runs : Edition → ℕ → ℕ → List ℕ → Lent → After → Type 0
Runs e n k s b l = ComesOf (sheet_call e n k s b) b l
