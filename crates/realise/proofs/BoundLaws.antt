-- How few read stages a sheet that realises an order can have (001, Theorem 4.1).
--   port_part       the bank part of M = N P at tick 0
--   read_stages_law     with P1 of rank r there are at least k - r
use Prim.Native.Nat.{ℕ, ◌+◌, ◌^◌, ◌<◌, ◌≤◌}
use mathlib.Core.Path.{◌≡◌, sym, ap, ◌∙◌}
use mathlib.Core.List.{List}
use native.Mathlib.Omega.{arith}
use lib.Bits.{bit_xor}
use lib.ListN.{length}
use lib.Pow.{pow-lt, pow_mono}
use Rattle.kinds.specs.Edition.{Edition}
use Rattle.kinds.specs.Frame.{word_at, bank_of}
use Rattle.bits.specs.Image.{image, columns}
use Rattle.bits.proofs.ImageLaws.{image_xor, columns_below}
use Rattle.span.specs.Scan.{rank}
use Rattle.span.proofs.RankLaws.{bijection_rank, rank_same, rank_xor, rank_after_inner}
use Rattle.span.proofs.RowRankLaws.{rank_rows}
use Rattle.order.specs.Order.{place, Order}
use Rattle.parts.specs.Parts.{P1, P3, rows_p1}
use Rattle.parts.proofs.PartLaws.{P1_into}
use Rattle.sheet.specs.Sheet.{Side, write_side, read_side}
use Rattle.sheet.specs.Layout.{InRange, WellFormed}
use Rattle.switches.specs.Cells.{cell_of}
use Rattle.switches.proofs.StageLaws.{stages_rank, selected}
use Rattle.switches.proofs.CellLaws.{bank_parts, bank_of_cell, wiring_part}
use Rattle.realise.specs.Agreement.{Invertible}
use Rattle.realise.specs.Realises.{Realises}
use Rattle.realise.proofs.RealiseLaws.{apart_wired, realises_fits}

module _ (n k : ℕ) (W R : Side) (C : List ℕ) (within : k ≤ n) (write : InRange n k W) (read : InRange n k R)
    (places : (i : ℕ) → i < 2 ^ n → cell_of k W i ≡ cell_of k R (place C i)) where
  abbrev stages : ℕ → ℕ
  stages p = selected R.stages (P3 k C p)

  abbrev wires : ℕ → ℕ
  wires p = image R.wiring (P1 k C p)

  pub port_part : (p : ℕ) → p < 2 ^ k → image W.wiring p ≡ bit_xor (stages p) (wires p)
  port_part p h =
      sym (wiring_part write p h)
      ∙ ap (bank_of k) (places (word_at k 0 p) (omega (arith, pow_mono within)))
      ∙ bank_of_cell read (P3 k C p) (P1 k C p)
      ∙ bank_parts R (P3 k C p) (P1 k C p)

  side_stages : Invertible k W → k ≤ rank (rows_p1 k C) + length R.stages
  side_stages wired =
      omega (
        arith,
        bijection_rank k (image W.wiring) (image_xor W.wiring) wired,
        rank_same k (image W.wiring) (λ p. bit_xor (stages p) (wires p)) port_part,
        rank_xor k stages wires,
        stages_rank k R.stages (P3 k C),
        rank_after_inner k (P1 k C) (image R.wiring) (image_xor R.wiring),
        rank_rows k (columns k (P1 k C)) (columns_below k (2 ^ k) (P1 k C) (λ j h. P1_into k C (2 ^ k) (2 ^ j) (pow-lt h))),
      )

pub read_stages_law : {e : Edition} {n k : ℕ} {C s : List ℕ} → k ≤ n → Order n C → WellFormed e n k s → Realises e n k C s
    → k ≤ rank (rows_p1 k C) + length (read_side e n k s).stages
read_stages_law {e} {n} {k} {C} {s} within order formed ok =
    let fits = realises_fits within order formed ok in
    side_stages n k (write_side e n k s) (read_side e n k s) C within formed.write.used formed.read.used fits.in_order
    (apart_wired formed.write.used fits.write_banks)
