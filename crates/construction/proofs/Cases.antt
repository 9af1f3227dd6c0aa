-- Planned sheets of orders that 01 does not mark, computed on the written meaning; and one order for which the rows of P3, not restricted to the ports that P1 sends to 0, would give another read stage.
use mathlib.Core.Path.{◌≡◌, refl}
use mathlib.Core.List.{[], ◌∷◌, map}
use native.Mathlib.Decide.{ℕ_discrete}
use lib.Count.{ones}
use Rattle.kinds.specs.Edition.{edition1}
use Rattle.kinds.specs.Frame.{in_order}
use Rattle.kinds.specs.Decided.{some_below}
use Rattle.kinds.specs.Search.{those}
use Rattle.bits.specs.Image.{image, columns}
use Rattle.bits.specs.Parity.{parity, dot}
use Rattle.span.specs.Decisions.{sum_of?}
use Rattle.span.specs.Scan.{kept_at, others, mask, masks}
use Rattle.span.specs.Rows.{dots, rows}
use Rattle.parts.specs.Parts.{rows_p3}
use Rattle.switches.specs.Stages.{bank_after}
use Rattle.switches.specs.Written.{kept_stages_of}
use Rattle.realise.proofs.Cases.{identity, turning}
use Rattle.construction.specs.Planned.{others_of_p1, ports_to_zero, kept_of_p3, read_stages_of, planned_sheet}
use Rattle.lay.specs.Staged.{pairs}

computed : Unit {0}
unfolding image columns ℕ_discrete sum_of? some_below those kept_at others mask masks in_order dots rows dot parity ones bank_after kept_stages_of others_of_p1 ports_to_zero kept_of_p3 pairs read_stages_of
computed = tt

-- sheets that were judged and run: the identity, and columns 2 3
planned_sheets : map (planned_sheet edition1 2 1) ((1 ∷ 2 ∷ []) ∷ (2 ∷ 3 ∷ []) ∷ []) ≡ identity ∷ turning ∷ []
unfolding computed
planned_sheets = refl

-- n 4, k 2, columns 5 8 1 2: P1 sends ports 0 and 2 to 0, and on these row 0 of P3 vanishes
restricted : (kept_of_p3 4 2 (5 ∷ 8 ∷ 1 ∷ 2 ∷ []) ≡ 1 ∷ []) × (kept_at (rows_p3 4 2 (5 ∷ 8 ∷ 1 ∷ 2 ∷ [])) 2 ≡ 0 ∷ 1 ∷ [])
unfolding computed
restricted = (refl, refl)
