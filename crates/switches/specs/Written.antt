-- The side that is written for a map of words to cells (01, 'The planner's choices', from "M = N P" on).
--   kept_stage F p        where column p of the tick-to-bank part with the columns F is kept: "a stage's direction is a kept column,
--                        and bit j of its control says whether that column is in the sum for tick bit j"
--   kept_stages_of F         the stages of all columns that are kept
--   side_for n k f        the side that 01's planner writes for the map f of words to cells: addresses are those of the cells, "its port-to-bank part is the wiring", and the
--                        stages are those kept of its tick-to-bank part
use Rattle.std.specs.Prelude.{ℕ, List, map, length, get_or}
use Rattle.kinds.specs.Frame.{tick_bits, address_of}
use Rattle.bits.specs.Image.{columns}
use Rattle.span.specs.Rows.{row}
use Rattle.span.specs.Scan.{kept_at, masks}
use Rattle.sheet.specs.Sheet.{Side}
use Rattle.sheet.specs.declared.Stage.{Stage}
use Rattle.switches.specs.Cells.{port_to_bank, tick_to_bank}

abbrev pub kept_stage : List ℕ → ℕ → Stage
kept_stage F p = record { direction = get_or F p 0; control = row (masks F) p }

unfoldable pub kept_stages_of : List ℕ → List Stage
unfolding kept_at masks row
kept_stages_of F = map (kept_stage F) (kept_at F (length F))

abbrev pub side_for : ℕ → ℕ → (ℕ → ℕ) → Side
side_for n k f = record {
  addresses = columns n (λ i. address_of k (f i));
  wiring = columns k (port_to_bank k f);
  stages = kept_stages_of (columns (tick_bits n k) (tick_to_bank k f));
}
