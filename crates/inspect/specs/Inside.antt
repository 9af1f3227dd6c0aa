-- What the functions inside the crate promise one another.
--   AgreeAt k C w R j     column j of w is the cell that the side R has for the place of word 2^j
--   Agree n k C w R       M, which has the columns w, is N P on the words 2^0 to 2^(n-1), where R is the read side
--   Comparable k C w      there are as many columns of each, and k is at most 16
--   Agrees k C w o r      r says whether they agree on as many words as there are columns, of whichever side o shows
--   Judgeable n C         C is n columns
--   Judges n k C o p r    where o and p show the sides of a sheet, r is the lowest of 6 to 9 that applies to it
use Rattle.std.specs.Prelude.{ℕ, ◌<◌, ◌≤◌, ◌≡◌, Bool, List, length, get_or, Result}
use Rattle.kinds.specs.declared.Refusal.{Refusal}
use Rattle.kinds.specs.Answers.{Says}
use Rattle.kinds.specs.Edition.{edition1}
use Rattle.kinds.specs.First.{first_of}
use Rattle.kinds.specs.Refusal.{said}
use Rattle.sheet.specs.Sheet.{Side, write_side, read_side}
use Rattle.switches.specs.Cells.{cell_of}
use Rattle.bits.specs.Padded.{array_width}
use Rattle.maps.specs.Opened.{Shows}
use Rattle.maps.specs.declared.OpenSide.{OpenSide}
use Rattle.realise.specs.Realises.{map_table}

abbrev pub AgreeAt : ℕ → List ℕ → List ℕ → Side → ℕ → Type 0
AgreeAt k C w R j = get_or w j 0 ≡ cell_of k R (get_or C j 0)

abbrev pub Agree : ℕ → ℕ → List ℕ → List ℕ → Side → Type 0
Agree n k C w R = (j : ℕ) → j < n → AgreeAt k C w R j

pub record Comparable (k : ℕ) (C w : List ℕ) : Type 0 where
  pub ports : k ≤ array_width
  pub columns : length w ≡ length C

abbrev pub Agrees : ℕ → List ℕ → List ℕ → OpenSide → Bool → Type 0
Agrees k C w o r = (m : ℕ) (R : Side) → Shows m k o R → Says r (Agree (length C) k C w R)

pub record Judgeable (n : ℕ) (C : List ℕ) : Type 0 where
  pub count : length C ≡ n

abbrev pub Judges : ℕ → ℕ → List ℕ → OpenSide → OpenSide → Result Unit Refusal → Type 0
Judges n k C o p r =
    (s : List ℕ) → Shows n k o (write_side edition1 n k s) → Shows n k p (read_side edition1 n k s) → said r ≡ first_of (map_table edition1 n k C s)
