-- What the functions inside the crate promise one another.
--   Few C                      there are at most 16 columns C
--   ChecksColumns n C fits r   r is the lowest of 2 to 4 that applies, fits as in `Checks`; if none does, the scan holds C
--   ChecksAndScans n C fits r  the same of 1 to 4, for a tool that takes no k
--   UndoesHeld scan m m'       whatever order the scan holds, of as many columns as m has, m' undoes it
use Rattle.std.specs.Prelude.{ℕ, ◌≤◌, Bool, List, [], ◌∷◌, length, Result, IfOk}
use Rattle.kinds.specs.Edition.{edition1, SizedN}
use Rattle.kinds.specs.Decisions.{sized_n?}
use Rattle.kinds.specs.Answers.{Checks}
use Rattle.kinds.specs.declared.Refusal.{Refusal}
use Rattle.span.specs.Held.{Holds}
use Rattle.span.specs.Tools.{most_scanned}
use Rattle.span.specs.declared.Scan.{Scan}
use Rattle.order.specs.Order.{Order, Undoes}
use Rattle.order.specs.Table.{column_table, order_table}

abbrev pub Few : List ℕ → Type 0
Few C = length C ≤ most_scanned

pub record ChecksColumns (n : ℕ) (C : List ℕ) (fits : Bool) (r : Result Scan Refusal) : Type 0 where
  pub answer : Checks (column_table n (C ∷ [])) fits r
  pub holds : IfOk r (λ scan. Holds scan C)

pub record ChecksAndScans (n : ℕ) (C : List ℕ) (fits : Bool) (r : Result Scan Refusal) : Type 0 where
  pub answer : Checks (order_table (SizedN edition1 n) (sized_n? edition1 n) n C) fits r
  pub holds : IfOk r (λ scan. Holds scan C)

abbrev pub UndoesHeld : Scan → List ℕ → List ℕ → Type 0
UndoesHeld scan m m' = (C : List ℕ) → Holds scan C → Order (length m) C → Undoes (length m) C m'
