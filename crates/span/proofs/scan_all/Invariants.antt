-- The entries hold the numbers so far, their masks stand, and the bool says whether there is room for all numbers and every number so far was kept.
use Rattle.std.proofs.Common.{ℕ, ◌≤◌, ◌<◌, ◌≡◌, Bool, List, length, get_or, take}
use Rattle.kinds.specs.Answers.{Says}
use Rattle.span.specs.Scan.{mask}
use Rattle.span.specs.Held.{Echelon}
use Rattle.span.specs.Tools.{most_scanned}
use Rattle.span.proofs.ScanLaws.{IsKept}
use Rattle.span.proofs.scan_all.Given as goal

-- there is room for the numbers vs, and the first j of those that are scanned were kept
abbrev pub AllKept : List ℕ → List ℕ → ℕ → Type 0
AllKept vs first j = (length vs ≤ most_scanned) × ((i : ℕ) → i < j → IsKept first i)

pub record Scanning (vs first es ms : List ℕ) (b : Bool) (j : ℕ) : Type 0 where
  pub echelon : Echelon es (take j first)
  pub places : length ms ≡ most_scanned
  pub masked : (i : ℕ) → i < j → get_or ms i 0 ≡ mask first i
  pub rest : (i : ℕ) → j ≤ i → get_or ms i 0 ≡ 0
  pub says : Says b (AllKept vs first j)

abbrev pub invariant-loop-j : goal.invariant-loop-j
invariant-loop-j l = Scanning l.numbers l.first l.entries l.masks l.independent l.j
