-- Laws of a surplus of stages.
--   part_selected      the tick-to-bank part of stages is what they select
--   part_few           its rank is at most their number
--   sheet_surplus      a sheet that keeps the layout has a surplus exactly when on either side the stages are more than the rank of the tick-to-bank part of M, or of N
--   surplus_tells      stages in range have a surplus exactly when their directions are dependent, or their controls are
--   side_no_surplus    the side that is written for a map has none
use Prim.Native.Nat.{ℕ, ◌^◌, ◌<◌, ◌≤◌}
use mathlib.Core.Path.{◌≡◌, sym, ap, subst, ◌∙◌}
use mathlib.Core.List.{List}
use mathlib.Core.Logic.Iff
use mathlib.Core.Logic.{◌↔◌, ◌⊎◌}
use native.Mathlib.Decide.{ℕ_discrete}
use native.Mathlib.Omega.{arith}
use lib.ListN.{length, length-map}
use lib.Pow.{pow-lt}
use Rattle.kinds.specs.Edition.{Edition}
use Rattle.kinds.specs.Frame.{tick_bits}
use Rattle.bits.specs.Image.{image, columns}
use Rattle.bits.proofs.ImageLaws.{columns_length, columns_image, columns_same}
use Rattle.span.specs.Sums.{Independent}
use Rattle.span.specs.Scan.{rank}
use Rattle.span.proofs.RankLaws.{rank_length}
use Rattle.span.proofs.ThroughLaws.{through_columns, through_full}
use Rattle.sheet.specs.Sheet.{Side, write_side, read_side}
use Rattle.sheet.specs.declared.Stage.{Stage}
use Rattle.sheet.specs.Layout.{StageInRange, EachStage, InRange, WellFormed}
use Rattle.switches.specs.Cells.{cell_of, M, N, tick_to_bank}
use Rattle.switches.specs.Written.{kept_stages_of, side_for}
use Rattle.switches.specs.Surplus.{tick_part, Surplus, HasSurplus}
use Rattle.switches.proofs.StageLaws.{stages_sum, directions, controls, selected, controls_below}
use Rattle.switches.proofs.CellLaws.{stages_part}
use Rattle.switches.proofs.WrittenLaws.{kept_count, kept_selected}

pub part_selected : (t : ℕ) (ss : List Stage) → columns t (tick_part ss) ≡ columns t (selected ss)
part_selected t ss = columns_same t (tick_part ss) (selected ss) (λ j h. stages_sum ss (2 ^ j) 0)

pub part_few : (t : ℕ) (ss : List Stage) → rank (columns t (tick_part ss)) ≤ length ss
part_few t ss =
    rw (part_selected t ss)
    (omega (arith, through_columns t (directions ss) (controls ss), rank_length (directions ss), length-map ss (λ s. s.direction)))

part_of_side : {n k : ℕ} {S : Side} → InRange n k S → (t : ℕ) → columns t (tick_part S.stages) ≡ columns t (tick_to_bank k (cell_of k S))
part_of_side {k = k} {S} used t =
    part_selected t S.stages ∙ columns_same t (selected S.stages) (tick_to_bank k (cell_of k S)) (λ j h. sym (stages_part used (2 ^ j)))

pub sheet_surplus : {e : Edition} {n k : ℕ} {s : List ℕ} → WellFormed e n k s
    → HasSurplus e n k s ↔ ((rank (columns (tick_bits n k) (tick_to_bank k (M e n k s))) < length (write_side e n k s).stages)
    ⊎ (rank (columns (tick_bits n k) (tick_to_bank k (N e n k s))) < length (read_side e n k s).stages))
sheet_surplus {n = n} {k} formed = rw (part_of_side formed.write.used (tick_bits n k), part_of_side formed.read.used (tick_bits n k)) Iff.rfl

module _ (b t : ℕ) (ss : List Stage) (each : EachStage (StageInRange b (2 ^ t)) ss) where
  full : rank (columns t (tick_part ss)) ≡ length ss ↔ (Independent (directions ss) × Independent (controls ss))
  full =
      rw (part_selected t ss)
      (through_full t (directions ss) (controls ss) (controls_below b t ss each) (length ss)
      (length-map ss (λ s. s.direction)) (length-map ss (λ s. s.control)))

  pub surplus_tells : Surplus t ss ↔ (¬ (Independent (directions ss) × Independent (controls ss)))
  surplus_tells = (
    λ more both. omega (arith, more, full.1 both),
    λ not. elim (ℕ_discrete (rank (columns t (tick_part ss))) (length ss)) [
      | yes as_many ↦ absurd (not (full.0 as_many))
      | no fewer ↦ omega (arith, part_few t ss)
    ],
  )

kept_no_surplus : (F : List ℕ) → ¬ Surplus (length F) (kept_stages_of F)
kept_no_surplus F more = omega (arith, more, kept_count F, ap rank part)
  where
    part : columns (length F) (tick_part (kept_stages_of F)) ≡ F
    part =
        part_selected (length F) (kept_stages_of F)
        ∙ columns_same (length F) (selected (kept_stages_of F)) (image F) (λ j h. kept_selected F (2 ^ j) (pow-lt h))
        ∙ columns_image F

pub side_no_surplus : (n k : ℕ) (f : ℕ → ℕ) → ¬ Surplus (tick_bits n k) (side_for n k f).stages
side_no_surplus n k f more =
    let F = columns (tick_bits n k) (tick_to_bank k f) in
    kept_no_surplus F (subst (λ (t : ℕ). Surplus t (kept_stages_of F)) (sym (columns_length (tick_bits n k) (tick_to_bank k f))) more)
