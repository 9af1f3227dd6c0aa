-- What a sheet holds (01, 'What a sheet holds'). Whoever reads a sheet, of whichever edition, reads it by these definitions.
--   Side                  what one side says: address columns, wiring columns, and the stages in order
--   address_places e l, wiring_places e l, count_place e l, stage_places e l      the rows of 01's table, where l is all places of a side
--   stage_at l s           stage s of the stage places l: "direction then control"
--   stages_in m l          the first m stages of the stage places l
--   stages_from l          the stages whose numbers are l, as they stand on a sheet
--   side_of e n k l        the side whose places are l: n address columns, k wiring columns, and as many stages as the count says
--   write_places e s, read_places e s          the places of the write side ("the first 32") and of the read side ("the last 32") of the sheet s
--   write_side e n k s, read_side e n k s      the two sides
-- And whoever writes one writes it so:
--   flat ss               the numbers of the stages ss, as they stand on a sheet: direction, control, direction, ..
--   laid_out e S           all places of a side that says S. "Unused places are zero"
--   sheet_of e W R         the sheet with the write side W and the read side R
use Rattle.std.specs.Prelude.{ℕ, ◌+◌, ◌*◌, ◌/◌, List, [], ◌∷◌, ◌++◌, length, take, drop, get_or}
use Rattle.kinds.specs.Edition.{Edition, side_places}
use Rattle.kinds.specs.Frame.{in_order}
use Rattle.bits.specs.Padded.{padded_to}
use Rattle.sheet.specs.declared.Stage.{Stage}

pub record Side : Type 0 where
  pub addresses : List ℕ
  pub wiring : List ℕ
  pub stages : List Stage

abbrev pub address_places : Edition → List ℕ → List ℕ
address_places e l = take e.most_n l

abbrev pub wiring_places : Edition → List ℕ → List ℕ
wiring_places e l = take e.most_k (drop e.most_n l)

abbrev pub count_place : Edition → List ℕ → ℕ
count_place e l = get_or l (e.most_n + e.most_k) 0

abbrev pub stage_places : Edition → List ℕ → List ℕ
stage_places e l = drop (e.most_n + e.most_k + 1) l

abbrev pub stage_at : List ℕ → ℕ → Stage
stage_at l s = record { direction = get_or l (2 * s) 0; control = get_or l (2 * s + 1) 0 }

unfoldable pub stages_in : ℕ → List ℕ → List Stage
unfolding in_order
stages_in m l = in_order m (stage_at l)

abbrev pub stages_from : List ℕ → List Stage
stages_from l = stages_in (length l / 2) l

abbrev pub side_of : Edition → ℕ → ℕ → List ℕ → Side
side_of e n k l = record {
  addresses = take n (address_places e l);
  wiring = take k (wiring_places e l);
  stages = stages_in (count_place e l) (stage_places e l);
}

abbrev pub write_places : Edition → List ℕ → List ℕ
write_places e s = take (side_places e) s

abbrev pub read_places : Edition → List ℕ → List ℕ
read_places e s = drop (side_places e) s

abbrev pub write_side : Edition → ℕ → ℕ → List ℕ → Side
write_side e n k s = side_of e n k (write_places e s)

abbrev pub read_side : Edition → ℕ → ℕ → List ℕ → Side
read_side e n k s = side_of e n k (read_places e s)

abbrev pub flat : List Stage → List ℕ
flat [] = []
flat (s ∷ ss) = s.direction ∷ s.control ∷ flat ss

abbrev pub laid_out : Edition → Side → List ℕ
laid_out e S =
    padded_to e.most_n S.addresses ++ (padded_to e.most_k S.wiring
    ++ (length S.stages ∷ padded_to (2 * e.most_stages + e.left_over) (flat S.stages)))

abbrev pub sheet_of : Edition → Side → Side → List ℕ
sheet_of e W R = laid_out e W ++ laid_out e R
