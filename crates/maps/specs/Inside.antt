-- What the functions inside the crate promise one another.
--   SideOf n k l         l is the places of a side that keeps the layout
--   OpensSide n k l o    o is the side with the places l, opened
--   IsColumn o j r       r is column j of the map of whichever side o shows
--   Doubled m v l r      r is l, but that its places from m to 2m - 1 hold what its first m do, with v xored in
use Rattle.std.specs.Prelude.{ℕ, ◌+◌, ◌*◌, ◌^◌, ◌<◌, ◌≤◌, ◌≡◌, List, length, get_or}
use Rattle.std.specs.Int.Bits.{bit_xor}
use Rattle.kinds.specs.Edition.{edition1, side_places}
use Rattle.sheet.specs.Sheet.{Side, side_of}
use Rattle.sheet.specs.Layout.{FormedSide}
use Rattle.switches.specs.Cells.{cell_of}
use Rattle.bits.specs.Padded.{array_width}
use Rattle.maps.specs.Opened.{Shows}
use Rattle.maps.specs.declared.OpenSide.{OpenSide}

pub record SideOf (n k : ℕ) (l : List ℕ) : Type 0 where
  pub places : length l ≡ side_places edition1
  pub formed : FormedSide edition1 n k l

abbrev pub OpensSide : ℕ → ℕ → List ℕ → OpenSide → Type 0
OpensSide n k l o = Shows n k o (side_of edition1 n k l)

abbrev pub IsColumn : OpenSide → ℕ → ℕ → Type 0
IsColumn o j r = (n k : ℕ) (S : Side) → Shows n k o S → j < array_width → r ≡ cell_of k S (2 ^ j)

pub record Doubled (m v : ℕ) (l r : List ℕ) : Type 0 where
  pub same : length r ≡ length l
  pub low : (p : ℕ) → p < m → get_or r p 0 ≡ get_or l p 0
  pub high : (p : ℕ) → p < m → get_or r (m + p) 0 ≡ bit_xor (get_or l p 0) v
  pub rest : (p : ℕ) → 2 * m ≤ p → get_or r p 0 ≡ get_or l p 0
