-- The sheet with any read stages for the order with the columns C, and the one that is planned for it (01, 'The planner's choices'; 001, Algorithm 5.2).
--   StagesInRange n k ss     every stage of ss is in its range
--   read_with n k ss          the read side: "address is the tick, wiring the identity", and the stages ss
--   m_with n k ss C i         "M = N P"
--   write_with n k ss C       the write side, which has M for its map
--   sheet_with e n k ss C     the sheet
-- The planner's choices:
--   others_of_p1 k C       the numbers of the rows of P1 that are not kept when they are scanned "from 0 up": "the k - r others are i1 < i2 < ..."
--   ports_to_zero k C      the "ports that P1 sends to 0"
--   kept_of_p3 n k C       the numbers of the rows of P3 that are kept, "taken only on ports that P1 sends to 0": "the kept are j1 < j2 < ..., k - r of them"
--   read_stages_of n k C     "stages (2^i1, 2^j1), (2^i2, 2^j2), ...": there are as many directions as controls (laws `other_rows` and `kept_rows`)
--   planned_read n k C, planned_write n k C, planned_sheet e n k C      the sides and the sheet with these read stages
-- And what it is good for:
--   IsPlanned e n k C s  s is the planned sheet, number for number; it has the places of a sheet, is well-formed, and right for the order C; it has exactly k - rank P1 read stages, and no
--                        well-formed sheet that is right for the order has fewer
use Rattle.std.specs.Prelude.{ℕ, ◌+◌, ◌^◌, ◌≤◌, ◌≡◌, List, length}
use Rattle.std.proofs.Math.Decide.{ℕ_discrete}
use Rattle.kinds.specs.Edition.{Edition, sheet_places}
use Rattle.kinds.specs.Frame.{tick_bits, tick_of}
use Rattle.kinds.specs.Search.{those}
use Rattle.bits.specs.Image.{columns}
use Rattle.span.specs.Scan.{kept_at, others, rank, units}
use Rattle.span.specs.Rows.{taken_on}
use Rattle.order.specs.Order.{place}
use Rattle.parts.specs.Parts.{P1, rows_p1, rows_p3}
use Rattle.sheet.specs.Sheet.{Side, read_side, sheet_of}
use Rattle.sheet.specs.declared.Stage.{Stage}
use Rattle.sheet.specs.Layout.{StageInRange, EachStage, WellFormed}
use Rattle.switches.specs.Cells.{cell_of}
use Rattle.switches.specs.Written.{side_for}
use Rattle.lay.specs.Staged.{pairs}
use Rattle.promise.specs.Right.{Right}

abbrev pub StagesInRange : ℕ → ℕ → List Stage → Type 0
StagesInRange n k ss = EachStage (StageInRange (2 ^ k) (2 ^ tick_bits n k)) ss

abbrev pub read_with : ℕ → ℕ → List Stage → Side
read_with n k ss = record { addresses = columns n (tick_of k); wiring = columns k (λ p. p); stages = ss }

abbrev pub m_with : ℕ → ℕ → List Stage → List ℕ → ℕ → ℕ
m_with n k ss C i = cell_of k (read_with n k ss) (place C i)

abbrev pub write_with : ℕ → ℕ → List Stage → List ℕ → Side
write_with n k ss C = side_for n k (m_with n k ss C)

abbrev pub sheet_with : Edition → ℕ → ℕ → List Stage → List ℕ → List ℕ
sheet_with e n k ss C = sheet_of e (write_with n k ss C) (read_with n k ss)

unfoldable pub others_of_p1 : ℕ → List ℕ → List ℕ
unfolding others
others_of_p1 k C = others (rows_p1 k C)

unfoldable pub ports_to_zero : ℕ → List ℕ → List ℕ
unfolding those
ports_to_zero k C = those (λ p. ℕ_discrete (P1 k C p) 0) (2 ^ k)

unfoldable pub kept_of_p3 : ℕ → ℕ → List ℕ → List ℕ
unfolding kept_at ports_to_zero
kept_of_p3 n k C = let rows = taken_on (ports_to_zero k C) (rows_p3 n k C) in kept_at rows (length rows)

unfoldable pub read_stages_of : ℕ → ℕ → List ℕ → List Stage
unfolding pairs others_of_p1 kept_of_p3
read_stages_of n k C = pairs (units (others_of_p1 k C)) (units (kept_of_p3 n k C))

abbrev pub planned_read : ℕ → ℕ → List ℕ → Side
planned_read n k C = read_with n k (read_stages_of n k C)

abbrev pub planned_write : ℕ → ℕ → List ℕ → Side
planned_write n k C = write_with n k (read_stages_of n k C) C

abbrev pub planned_sheet : Edition → ℕ → ℕ → List ℕ → List ℕ
planned_sheet e n k C = sheet_with e n k (read_stages_of n k C) C

pub record IsPlanned (e : Edition) (n k : ℕ) (C s : List ℕ) : Type 0 where
  pub constructed : s ≡ planned_sheet e n k C
  pub places : length s ≡ sheet_places e
  pub formed : WellFormed e n k s
  pub right : Right e n k C s
  pub stages : rank (rows_p1 k C) + length (read_side e n k s).stages ≡ k
  pub fewest : (other : List ℕ) → WellFormed e n k other → Right e n k C other
      → length (read_side e n k s).stages ≤ length (read_side e n k other).stages
