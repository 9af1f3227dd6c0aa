-- The run of a sheet that is right for an order.
--   answered          it is right exactly when it is by its answers
--   sheet_whole       a call that hands out a tick hands out 2^k words, and any other none
--   right_tick        the ticks of the moved frame leave, one by one
--   right_alone       what leaves for a frame depends on its own words and the pattern of calls alone: frames do not leak
--   right_hands       a tick is handed out exactly in the calls in which one is due
use Prim.Native.Nat.{ℕ, ◌+◌, ◌^◌, ◌<◌, ◌≤◌}
use mathlib.Core.Path.{◌≡◌, refl, subst, ◌∙◌}
use mathlib.Core.List.{List, []}
use mathlib.Core.Logic.{◌↔◌}
use native.Mathlib.Nat.{zero-add}
use native.Mathlib.Omega.{arith}
use lib.ListN.{length}
use Rattle.kinds.specs.Answers.{Says}
use Rattle.kinds.specs.Edition.{Edition}
use Rattle.kinds.specs.Frame.{ticks}
use Rattle.kinds.proofs.FrameLaws.{in_order_at}
use Rattle.order.specs.Order.{Order, Moved}
use Rattle.order.proofs.OrderLaws.{order_bijection}
use Rattle.sheet.specs.Layout.{WellFormed}
use Rattle.switches.specs.Cells.{M, N}
use Rattle.call.proofs.CallLaws.{call_leaving}
use Rattle.promise.specs.Series.{call_at, Series, word_in, frame, words_of_tick, CompletedIn, TickDue, SamePattern}
use Rattle.promise.specs.Run.{Stand, Fresh}
use Rattle.promise.specs.Right.{Right}
use Rattle.promise.specs.Answered.{stands, outcome_at, seen_at, called_on, RightAnswered}
use Rattle.promise.proofs.SeriesLaws.{series_whole}
use Rattle.promise.proofs.AnsweredLaws.{answered_exact}
use Rattle.realise.proofs.CalledLaws.{called_hands}
use Rattle.realise.proofs.RealiseLaws.{realises_fits}
use Rattle.realise.proofs.ExactLaws.{right_realises}
use Rattle.promise.proofs.RightLaws.{Whole, over_tick, over_alone}

pub sheet_whole : (e : Edition) (n k : ℕ) (s : List ℕ) (x : Stand) (S : List (List ℕ)) → Whole k (seen_at (called_on e n k s S) x) S
sheet_whole e n k s x S j h =
    let at = stands (called_on e n k s S) x j in
    call_leaving [] n k (M e n k s) (N e n k s) at.state (call_at S j) at.memory

module _ {e : Edition} {n k : ℕ} {C s : List ℕ} where
  pub answered : Right e n k C s ↔ RightAnswered e n k C s
  answered = (
    λ right. record { over = λ x S fresh series. (answered_exact n k (λ F. M e n k s) (λ F. N e n k s) x S).0 (right.over x S fresh series) },
    λ right. record { over = λ x S fresh series. (answered_exact n k (λ F. M e n k s) (λ F. N e n k s) x S).1 (right.over x S fresh series) },
  )

  module _ (within : k ≤ n) (order : Order n C) (right : Right e n k C s) (x : Stand) (S : List (List ℕ)) (fresh : Fresh n k x) (series : Series k S) where
    pub right_tick : {F T c : ℕ} → CompletedIn n S F T → c < ticks n k → T + 1 + c < length S → (l : List ℕ) → Moved n C (frame n S F) l
        → (outcome_at (called_on e n k s S) x (T + 1 + c)).leaving ≡ words_of_tick k l c
    right_tick {F} completed early reach l moved =
        rw zero-add at (
        over_tick within (order_bijection order) early ((answered.0 right).over x S fresh series) completed (omega arith) (sheet_whole e n k s x S) l
        (λ i h. moved.each i h ∙ in_order_at (2 ^ n) (word_in n S F) 0 i h)
        )

    pub right_alone : (y : Stand) (R : List (List ℕ)) → Fresh n k y → Series k R → SamePattern S R → {F T c : ℕ} → frame n S F ≡ frame n R F → CompletedIn n S F T → c < ticks n k
        → T + 1 + c < length S → (outcome_at (called_on e n k s S) x (T + 1 + c)).leaving ≡ (outcome_at (called_on e n k s R) y (T + 1 + c)).leaving
    right_alone y R also others same {T = T} {c} words completed early reach =
        subst (λ (j : ℕ). (outcome_at (called_on e n k s S) x j).leaving ≡ (outcome_at (called_on e n k s R) y j).leaving) (zero-add (T + 1 + c))
        (over_alone within (order_bijection order) early ((answered.0 right).over x S fresh series) completed (omega arith) (sheet_whole e n k s x S)
        (λ i h. refl) ((answered.0 right).over y R also others) (sheet_whole e n k s y R) same words)

    pub right_hands : WellFormed e n k s → (j : ℕ) → j < length S → Says (outcome_at (called_on e n k s S) x j).handed (TickDue 0 n k S j)
    right_hands formed = called_hands within (λ F. realises_fits within order formed (right_realises within order formed right)) S (series_whole k S series) fresh
