-- A sheet realises an order exactly when it is right for it.
--   realises_right    a sheet that realises an order is right: the family of one pair of maps and one order
--   right_realises    a sheet that is right realises it
--   exact             so the two are one thing
--   right_stages      a right sheet has at least k - rank P1 read stages (001, Theorem 4.1)
use Prim.Native.Nat.{ℕ, ◌+◌, ◌-◌, ◌*◌, ◌^◌, ◌<◌, ◌≤◌}
use mathlib.Core.Path.{refl, ◌∙◌, subst}
use mathlib.Core.List.{List}
use mathlib.Core.Logic.{◌↔◌}
use native.Mathlib.Omega.{arith}
use lib.ListN.{length}
use lib.Pow.{pow_pos}
use Rattle.kinds.specs.Edition.{Edition}
use Rattle.kinds.specs.Frame.{tick_bits, ticks}
use Rattle.kinds.proofs.FrameLaws.{tick_lt}
use Rattle.span.specs.Scan.{rank}
use Rattle.order.specs.Order.{place, Order}
use Rattle.parts.specs.Parts.{rows_p1}
use Rattle.order.proofs.OrderLaws.{order_bijection}
use Rattle.sheet.specs.Sheet.{read_side}
use Rattle.sheet.specs.Layout.{WellFormed}
use Rattle.switches.specs.Cells.{M, N}
use Rattle.switches.proofs.CellLaws.{cell_into}
use Rattle.promise.specs.Series.{one_frame, call_at, due_call, due_port}
use Rattle.promise.specs.Seen.{Leaves, RightOver}
use Rattle.promise.specs.Answered.{fresh_stand, stands, seen_at, called_on}
use Rattle.promise.specs.Right.{Right}
use Rattle.realise.specs.Realises.{Realises}
use Rattle.promise.proofs.SeriesLaws.{series_whole}
use Rattle.promise.proofs.FreshLaws.{is_fresh}
use Rattle.promise.proofs.AnsweredLaws.{no_fault_none, answered_exact}
use Rattle.realise.proofs.CalledLaws.{called_right}
use Rattle.realise.proofs.OneFrame.{one_frame_length, completed, word_in_law, one_frame_series}
use Rattle.realise.proofs.OneRun.{only, only_small, only_one, FineBefore, right_fits}
use Rattle.realise.proofs.RealiseLaws.{realises_fits, fits_realises}
use Rattle.realise.proofs.BoundLaws.{read_stages_law}

module _ {e : Edition} {n k : ℕ} {C s : List ℕ} (within : k ≤ n) (order : Order n C) (formed : WellFormed e n k s) where
  pub realises_right : Realises e n k C s → Right e n k C s
  realises_right ok = record {
    over = λ x S fresh series.
        (answered_exact n k (λ F. M e n k s) (λ F. N e n k s) x S).1 (called_right within (λ F. realises_fits within order formed ok) S (series_whole k S series) fresh);
  }

  module _ (right : Right e n k C s) (i : ℕ) (h : i < 2 ^ n) where
    abbrev S : List (List ℕ)
    S = one_frame n k (only i)

    alone : RightOver 0 n k (λ F. place C) (seen_at (called_on e n k s S) (fresh_stand n k)) S
    alone = (answered_exact n k (λ F. M e n k s) (λ F. N e n k s) (fresh_stand n k) S).0
        (right.over (fresh_stand n k) S (is_fresh n k) (one_frame_series n k (only i) within (λ j _. only_small i j)))

    fine : FineBefore n k (M e n k s) (N e n k s) (only i) (2 * ticks n k)
    fine j l =
        let y = stands (called_on e n k s S) (fresh_stand n k) j in
        no_fault_none n k (M e n k s) (N e n k s) y.state (call_at S j) y.memory (alone.no_fault j (rw (one_frame_length n k (only i)) l))

    leaves : Leaves (seen_at (called_on e n k s S) (fresh_stand n k) (due_call 0 k (place C) (ticks n k - 1) i)) (due_port k (place C) i) 1
    leaves =
        let tick = tick_lt {k = k} within ((order_bijection order).into i h) in
        subst (Leaves (seen_at (called_on e n k s S) (fresh_stand n k) (due_call 0 k (place C) (ticks n k - 1) i)) (due_port k (place C) i))
        (word_in_law n k (only i) within i h ∙ only_one i)
        (alone.leaves 0 (ticks n k - 1) i _ (completed n k (only i) within) h refl (omega (arith, one_frame_length n k (only i), tick, pow_pos (tick_bits n k))))

  pub right_realises : Right e n k C s → Realises e n k C s
  right_realises right =
      fits_realises formed
      (right_fits n k (place C) (M e n k s) (N e n k s) within (cell_into formed.write.used within) (cell_into formed.read.used within) (order_bijection order)
      (fine right) (leaves right))

  pub exact : Realises e n k C s ↔ Right e n k C s
  exact = (realises_right, right_realises)

  pub right_stages : Right e n k C s → k ≤ rank (rows_p1 k C) + length (read_side e n k s).stages
  right_stages right = read_stages_law within order formed (right_realises right)
