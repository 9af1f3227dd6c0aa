-- What the functions inside the crate promise one another.
--   most_ports                   the most ports that the code has room for
--   ListsPlaces o c base l l'   the cells of tick c of whichever side o shows, from the place base on, into a list that has a place for each port
use Rattle.std.specs.Prelude.{ℕ, ◌+◌, ◌^◌, ◌≡◌, List, length}
use Rattle.kinds.specs.Edition.{edition1}
use Rattle.kinds.specs.Frame.{in_order}
use Rattle.sheet.specs.Sheet.{Side}
use Rattle.switches.specs.Cells.{cell_at}
use Rattle.maps.specs.Opened.{Shows}
use Rattle.maps.specs.declared.OpenSide.{OpenSide}

abbrev pub most_ports : ℕ
most_ports = 2 ^ edition1.most_k

abbrev pub ListsPlaces : OpenSide → ℕ → ℕ → List ℕ → List ℕ → Type 0
ListsPlaces o c base l l' = (n k : ℕ) (S : Side) → Shows n k o S → length l ≡ 2 ^ k → l' ≡ in_order (2 ^ k) (λ p. base + cell_at k S c p)
