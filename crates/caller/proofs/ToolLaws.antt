-- The run as a tool over a series of calls.
--   tool_conserved      words are conserved from zero marks on, whatever the sheet, the series and the buffers
--   words_conserved     so they are in every run from fresh
--   tool_possible       from fresh every state met is possible
--   tool_runs           with a sheet that keeps the layout and a series of calls, the tool's run from fresh is the sheet's: 1, 2, 5 and 10 are never given
--   tool_outcome        and so is what comes of each call
--   tool_seen           and what is seen of it
--   tool_call_law           a call that is made where the sheet's run stands comes out as its own
--   tool_right          so where the sheet is right for an order, what the tool answers is
--   tool_tick           the ticks of the moved frame leave, one by one
--   tool_hands          a tick is handed out exactly in the calls in which one is due
--   tool_alone          and what leaves for a frame depends on its own words and the pattern of calls alone: frames do not leak
--   hands_out_when_due, frames_alone     both as 01 has them
--   tool_exact          and only there: the sheet is right exactly when the run as a tool is
use Prim.Native.Nat.{ℕ, zero, suc, ◌+◌, ◌^◌, ◌<◌, ◌≤◌}
use mathlib.Core.Path.{◌≡◌, refl, sym, ap, subst, ◌∙◌}
use mathlib.Core.List.{List}
use mathlib.Core.Logic.{◌↔◌}
use mathlib.Core.Option.{Option, none, some}
use native.Mathlib.Omega.{arith}
use lib.ListN.{length, replicate, length-replicate}
use Rattle.kinds.specs.Answers.{Says}
use Rattle.kinds.specs.Edition.{Edition, Sized, sheet_places}
use Rattle.kinds.specs.Frame.{ticks}
use Rattle.kinds.specs.First.{Reason, first_of}
use Rattle.kinds.specs.declared.Refusal.{Refusal}
use Rattle.kinds.proofs.FirstLaws.{first_none}
use Rattle.order.specs.Order.{place, Order, Moved}
use Rattle.sheet.specs.Layout.{AllZero, WellFormed}
use Rattle.switches.specs.Cells.{M, N}
use Rattle.state.specs.States.{Possible}
use Rattle.memory.specs.Memory.{filled_marks}
use Rattle.call.specs.Call.{Outcome}
use Rattle.lent.specs.Lent.{Lent}
use Rattle.call.proofs.CallLaws.{call_refused, call_past}
use Rattle.run.specs.Tool.{before_faults}
use Rattle.run.proofs.ToolLaws.{sheet_call_possible, sheet_call_filled}
use Rattle.promise.specs.Series.{call_at, Series, frame, words_of_tick, CompletedIn, TickDue, SamePattern}
use Rattle.promise.specs.Seen.{Seen, words_taken, words_handed, RightOver}
use Rattle.promise.specs.Run.{Stand, Fresh, standing}
use Rattle.promise.specs.Right.{Right}
use Rattle.promise.specs.Answered.{stands, outcome_at, seen_of, seen_at, stand_after, called_on}
use Rattle.promise.proofs.SeriesLaws.{call_count}
use Rattle.promise.proofs.SeenLaws.{over_same}
use Rattle.promise.proofs.ConservedLaws.{Fair, call_fair, conserved_by, lent_by}
use Rattle.promise.proofs.FreshLaws.{fresh_possible}
use Rattle.realise.proofs.SheetLaws.{answered, right_tick, right_alone, right_hands}
use Rattle.caller.specs.AsTool.{tool_call, RightAsTool, Conserves, HandsOutWhenDue, FramesAlone}

module _ (e : Edition) (n k : ℕ) (s : List ℕ) (S : List (List ℕ)) (out : ℕ → List ℕ) (x : Stand) where
  abbrev tool : ℕ → Stand → Outcome
  tool = tool_call e n k s S out

  abbrev lent : ℕ → Stand → Lent
  lent j y = record { state = y.state; came = call_at S j; memory = y.memory; out = out j }

  abbrev before : ℕ → Stand → List Reason
  before j y = before_faults e n k s (lent j y)

  tool_fair : (j : ℕ) (y : Stand) → Fair (tool j y) y.memory (call_at S j)
  tool_fair j y =
      call_fair (before j y) n k (M e n k s) (N e n k s) y.state (call_at S j) y.memory
      (λ ok. (sheet_call_filled e n k s (lent j y) ok).0)

  fair_at : (j : ℕ) → Fair (outcome_at tool x j) (stands tool x j).memory (call_at S j)
  fair_at j = tool_fair j (stands tool x j)

  pub tool_conserved : AllZero x.memory.marks → (j : ℕ) → words_taken (seen_at tool x) S j ≡ filled_marks (stands tool x j).memory.marks + words_handed (seen_at tool x) j
  tool_conserved = conserved_by tool x S fair_at

  stays_possible : (j : ℕ) (y : Stand) → Possible (ticks n k) y.state → (o : Option Refusal) → (tool j y).refusal ≡ o → Possible (ticks n k) (tool j y).state
  stays_possible j y possible none ok = sheet_call_possible e n k s (lent j y) ok
  stays_possible j y possible (some r) given =
      rw (ap (λ (o : Outcome). o.state) (call_refused (before j y) n k (M e n k s) (N e n k s) y.state (call_at S j) y.memory given)) possible

  possible_at : Possible (ticks n k) x.state → (j : ℕ) → Possible (ticks n k) (stands tool x j).state
  unfolding standing
  possible_at possible zero = possible
  possible_at possible (suc j) = let y = stands tool x j in stays_possible j y (possible_at possible j) (tool j y).refusal refl

  pub tool_possible : Fresh n k x → (j : ℕ) → Possible (ticks n k) (stands tool x j).state
  tool_possible fresh = possible_at (fresh_possible fresh)

  module _ (sized : Sized e n k) (whole : length s ≡ sheet_places e) (formed : WellFormed e n k s) (room : (j : ℕ) → j < length S → length (out j) ≡ 2 ^ k)
      (fresh : Fresh n k x) (series : Series k S) where
    nothing_wrong : (j : ℕ) → j < length S → first_of (before j (stands tool x j)) ≡ none
    nothing_wrong j h =
        let y = stands tool x j in
        let (words, marks) = lent_by tool x S fair_at j in
        let possible = tool_possible fresh j in
        (first_none (before j y)).1 (
          λ outside. outside sized,
          (
            λ wrong. wrong (whole, (call_count k (call_at S j) (series j h).count, (room j h, (words ∙ fresh.words_lent, (marks ∙ fresh.marks_lent, tt))))),
            (λ broken. broken formed, (λ not. not possible, tt)),
          ),
        )

    outcome_by : (j : ℕ) → j < length S → stands tool x j ≡ stands (called_on e n k s S) x j → outcome_at tool x j ≡ outcome_at (called_on e n k s S) x j
    outcome_by j h same =
        let y = stands tool x j in
        call_past (before j y) n k (M e n k s) (N e n k s) y.state (call_at S j) y.memory (nothing_wrong j h)
        ∙ ap (called_on e n k s S j) same

    pub tool_runs : (j : ℕ) → j ≤ length S → stands tool x j ≡ stands (called_on e n k s S) x j
    unfolding standing
    tool_runs zero h = refl
    tool_runs (suc j) h = ap stand_after (outcome_by j h (tool_runs j (omega arith)))

    pub tool_outcome : (j : ℕ) → j < length S → outcome_at tool x j ≡ outcome_at (called_on e n k s S) x j
    tool_outcome j h = outcome_by j h (tool_runs j (omega arith))

    pub tool_call_law : (j : ℕ) → j < length S → tool j (stands (called_on e n k s S) x j) ≡ outcome_at (called_on e n k s S) x j
    tool_call_law j h = ap (tool j) (sym (tool_runs j (omega arith))) ∙ tool_outcome j h

    pub tool_seen : (j : ℕ) → j < length S → seen_at tool x j ≡ seen_of (outcome_at (called_on e n k s S) x j)
    tool_seen j h = ap seen_of (tool_outcome j h)

    pub tool_right : {C : List ℕ} → Right e n k C s → RightOver 0 n k (λ F. place C) (seen_at tool x) S
    tool_right right = over_same tool_seen ((answered.0 right).over x S fresh series)

    module _ {C : List ℕ} (order : Order n C) (right : Right e n k C s) where
      within : k ≤ n
      within = omega (arith, sized.most)

      pub tool_hands : (j : ℕ) → j < length S → Says (seen_at tool x j).handed (TickDue 0 n k S j)
      tool_hands j h = subst (λ (o : Seen). Says o.handed (TickDue 0 n k S j)) (sym (tool_seen j h)) (right_hands within order right x S fresh series formed j h)

      pub tool_tick : {F T c : ℕ} → CompletedIn n S F T → c < ticks n k → T + 1 + c < length S → (l : List ℕ) → Moved n C (frame n S F) l
          → (seen_at tool x (T + 1 + c)).leaving ≡ words_of_tick k l c
      tool_tick completed early reach l moved = ap (λ (o : Seen). o.leaving) (tool_seen _ reach) ∙ right_tick within order right x S fresh series completed early reach l moved

abbrev buffers : ℕ → ℕ → List ℕ
buffers k j = replicate (2 ^ k) 0

module _ {e : Edition} {n k : ℕ} {C s : List ℕ} (sized : Sized e n k) (whole : length s ≡ sheet_places e) (formed : WellFormed e n k s) where
  pub tool_exact : Right e n k C s ↔ RightAsTool e n k C s
  tool_exact = (
    λ right. record { over = λ R. tool_right e n k s R.calls R.out R.start sized whole formed R.room R.fresh R.series right },
    λ right. answered.1 (record {
      over = λ x S fresh series.
          over_same (λ j h. sym (tool_seen e n k s S (buffers k) x sized whole formed (λ i l. length-replicate (2 ^ k) 0) fresh series j h))
          (right.over (record { start = x; calls = S; out = buffers k; fresh = fresh; series = series; room = λ i l. length-replicate (2 ^ k) 0 }));
    }),
  )

module _ {e : Edition} {n k : ℕ} {C s : List ℕ} (sized : Sized e n k) (whole : length s ≡ sheet_places e) (formed : WellFormed e n k s) (order : Order n C) (right : Right e n k C s) where
  pub tool_alone : (x y : Stand) (S R : List (List ℕ)) (out buffers : ℕ → List ℕ) → ((j : ℕ) → j < length S → length (out j) ≡ 2 ^ k) → ((j : ℕ) → j < length R → length (buffers j) ≡ 2 ^ k)
      → Fresh n k x → Fresh n k y → Series k S → Series k R → SamePattern S R → {F T c : ℕ} → frame n S F ≡ frame n R F → CompletedIn n S F T → c < ticks n k → T + 1 + c < length S
      → (seen_at (tool_call e n k s S out) x (T + 1 + c)).leaving ≡ (seen_at (tool_call e n k s R buffers) y (T + 1 + c)).leaving
  tool_alone x y S R out buffers room space fresh also series others same words completed early reach =
      ap (λ (o : Seen). o.leaving) (tool_seen e n k s S out x sized whole formed room fresh series _ reach)
      ∙ right_alone (omega (arith, sized.most)) order right x S fresh series y R also others same words completed early reach
      ∙ sym (ap (λ (o : Seen). o.leaving) (tool_seen e n k s R buffers y sized whole formed space also others _ (rw (← same.calls) reach)))

  pub hands_out_when_due : HandsOutWhenDue e n k s
  hands_out_when_due R j = tool_hands e n k s R.calls R.out R.start sized whole formed R.room R.fresh R.series order right j

  pub frames_alone : FramesAlone e n k s
  frames_alone R Q F T c same words =
      tool_alone R.start Q.start R.calls Q.calls R.out Q.out R.room Q.room R.fresh Q.fresh R.series Q.series same words

pub words_conserved : (e : Edition) (n k : ℕ) (s : List ℕ) → Conserves e n k s
words_conserved e n k s R = tool_conserved e n k s R.calls R.out R.start R.fresh.marks_zero
