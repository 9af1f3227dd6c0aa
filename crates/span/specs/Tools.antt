-- What is promised of scanning numbers, and of asking which kept ones make up a number.
--   most_scanned        how many numbers are scanned
--   Scans vs r         r is the scan of the numbers vs, of which the first `most_scanned` are taken: what it holds, their masks, and zeros after these, and whether all of vs are independent
--   Asks scan v r      r is the mask of v after whatever the scan holds, if v is a sum of what was kept; else there is none
use Rattle.std.specs.Prelude.{ℕ, ◌≡◌, List, [], ◌∷◌, ◌++◌, length, get_or, take, Option, Some, None}
use Rattle.kinds.specs.Answers.{Says}
use Rattle.span.specs.Sums.{SumOf, Independent}
use Rattle.span.specs.Scan.{kept, mask, masks}
use Rattle.span.specs.Held.{Holds}
use Rattle.span.specs.declared.Scan.{Scan}
use Rattle.span.specs.declared.Scanned.{Scanned}

abbrev pub most_scanned : ℕ
most_scanned = 16

pub record Scans (vs : List ℕ) (r : Scanned) : Type 0 where
  pub holds : Holds r.scan (take most_scanned vs)
  pub places : length r.masks ≡ most_scanned
  pub masked : (i : ℕ) → get_or r.masks i 0 ≡ get_or (masks (take most_scanned vs)) i 0
  pub says : Says r.independent (Independent vs)

pub record Asks (scan : Scan) (v : ℕ) (r : Option ℕ) : Type 0 where
  pub sum : (vs : List ℕ) → Holds scan vs → SumOf (kept vs) v → r ≡ Some (mask (vs ++ (v ∷ [])) (length vs))
  pub no_sum : (vs : List ℕ) → Holds scan vs → ¬ SumOf (kept vs) v → r ≡ None
