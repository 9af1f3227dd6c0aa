-- A caller who makes the calls of a series with `run::tick`, one after the other.
--   made_exists      from any stand, with any sheet and buffers, such a caller can be
--   made_stands      the tool's run stands where the caller does
--   made_comes       what is left is what comes of its calls
--   made_seen        and what is seen is what is seen of it
--   made_conserved   words taken in, less words handed out, are the filled marks, whatever the sheet and the buffers
-- From fresh, with a right sheet and out buffers of 2^k places:
--   made_right       each word leaves when and where it is due
--   made_tick        the ticks of the moved frame leave, one by one
--   made_hands       a tick is handed out exactly in the calls in which one is due: nothing else is
--   made_alone       what leaves for a frame depends on its own words and the pattern of calls alone
use Prim.Native.Nat.{ℕ, zero, suc, ◌+◌, ◌^◌, ◌<◌, ◌≤◌}
use mathlib.Core.Path.{◌≡◌, refl, sym, ap, ap₂, subst, ◌∙◌}
use mathlib.Core.Bool.{Bool, true, false, cond}
use mathlib.Core.List.{List, [], ◌++◌, append-nil}
use mathlib.Core.Option.{Option, none, some}
use native.Mathlib.Omega.{arith}
use lib.ListN.{length, drop}
use lib.Seq.{drop-length}
use Rattle.std.specs.Prelude.{Result, Ok, Err}
use Rattle.kinds.specs.Answers.{Says, over_front}
use Rattle.kinds.specs.Edition.{Edition, Sized, sheet_places}
use Rattle.kinds.specs.Frame.{ticks}
use Rattle.kinds.specs.First.{Reason}
use Rattle.kinds.specs.declared.Refusal.{Refusal}
use Rattle.kinds.proofs.TruthLaws.{false≢true}
use Rattle.order.specs.Order.{place, Order, Moved}
use Rattle.sheet.specs.Layout.{AllZero, WellFormed}
use Rattle.switches.specs.Cells.{M, N}
use Rattle.state.specs.declared.State.{State}
use Rattle.memory.specs.Memory.{Memory, filled_marks}
use Rattle.call.specs.Call.{Outcome}
use Rattle.lent.specs.Lent.{Lent}
use Rattle.call.specs.Tool.{After, state_after, handed_out, ComesOf}
use Rattle.call.specs.declared.Ran.{Ran}
use Rattle.call.proofs.CallLaws.{call_refused, call_leaving, call_idle}
use Rattle.run.specs.Tool.{before_faults, sheet_call}
use Rattle.run.proofs.ToolLaws.{sheet_call_sound}
use Rattle.promise.specs.Series.{call_at, Series, frame, words_of_tick, CompletedIn, TickDue, SamePattern}
use Rattle.promise.specs.Seen.{Seen, RightOver, words_taken, words_handed}
use Rattle.promise.specs.Run.{Stand, Fresh, standing}
use Rattle.promise.specs.Right.{Right}
use Rattle.promise.specs.Answered.{stand_after, seen_of, stands, outcome_at, seen_at}
use Rattle.promise.proofs.SeenLaws.{over_same, taken_same, handed_same}
use Rattle.caller.specs.AsTool.{tool_call}
use Rattle.caller.specs.Caller.{Made, start_of, seen_by}
use Rattle.caller.proofs.ToolLaws.{tool_conserved, tool_right, tool_tick, tool_hands, tool_alone}

-- what the tool answers where o comes of a call
answer_of : Option Refusal → Outcome → Result Ran Refusal
answer_of none o = Ok (record { state = o.state; handed = o.handed })
answer_of (some x) o = Err x

left_of : Lent → Outcome → After
left_of b o = record { answer = answer_of o.refusal o; memory = o.memory; out = over_front o.leaving b.out }

comes_by : (r : Option Refusal) (o : Outcome) (b : Lent) → o.refusal ≡ r → ((x : Refusal) → r ≡ some x → (o.state ≡ b.state) × (o.handed ≡ false))
    → ComesOf o b (record { answer = answer_of r o; memory = o.memory; out = over_front o.leaving b.out })
unfolding answer_of
comes_by none o b given kept = record { refusal = sym given; state = refl; handed = refl; memory = refl; buffer = refl }
comes_by (some x) o b given kept = record { refusal = sym given; state = sym (kept x refl).0; handed = sym (kept x refl).1; memory = refl; buffer = refl }

module _ (e : Edition) (n k : ℕ) (s : List ℕ) (S : List (List ℕ)) (x : Stand) (out : ℕ → List ℕ) where
  abbrev run : ℕ → Stand → Outcome
  run = tool_call e n k s S out

  abbrev lent_in_law : ℕ → Lent
  lent_in_law j = let y = stands run x j in record { state = y.state; came = call_at S j; memory = y.memory; out = out j }

  comes_of : (j : ℕ) → ComesOf (outcome_at run x j) (lent_in_law j) (left_of (lent_in_law j) (outcome_at run x j))
  unfolding left_of
  comes_of j = comes_by (outcome_at run x j).refusal (outcome_at run x j) (lent_in_law j) refl (λ r given.
      let y = stands run x j in
      let same = call_refused (before_faults e n k s (lent_in_law j)) n k (M e n k s) (N e n k s) y.state (call_at S j) y.memory given in
      (ap (λ (o : Outcome). o.state) same, ap (λ (o : Outcome). o.handed) same))

  state_after_law : (j : ℕ) → (stands run x (suc j)).state ≡ state_after (lent_in_law j).state (left_of (lent_in_law j) (outcome_at run x j)).answer
  unfolding standing
  state_after_law j = sym (comes_of j).state

  memory_after : (j : ℕ) → (stands run x (suc j)).memory ≡ (left_of (lent_in_law j) (outcome_at run x j)).memory
  unfolding standing left_of
  memory_after j = refl

  pub made_exists : (b : ℕ → Lent) × (l : ℕ → After) × Made e n k s S b l × (start_of b ≡ x) × ((j : ℕ) → (b j).out ≡ out j)
  unfolding standing
  made_exists = (
    lent_in_law,
    λ j. left_of (lent_in_law j) (outcome_at run x j),
    record { brings = λ j h. refl; answered = λ j h. comes_of j; state_on = λ j h. state_after_law j; memory_on = λ j h. memory_after j },
    refl,
    λ j. refl,
  )

whole_buffer : (l out : List ℕ) → length l ≡ length out → over_front l out ≡ l
whole_buffer l out e = ap (λ (i : ℕ). l ++ drop i out) e ∙ ap (λ (r : List ℕ). l ++ r) (drop-length out) ∙ append-nil l

-- where a tick was handed out, its words are all that stands in the out buffer
module _ (e : Edition) (n k : ℕ) (s : List ℕ) (b : Lent) where
  abbrev this : Outcome
  this = sheet_call e n k s b

  abbrev before : List Reason
  before = before_faults e n k s b

  not_refused : this.handed ≡ true → this.refusal ≡ none
  not_refused busy = go this.refusal refl
    where
      go : (o : Option Refusal) → this.refusal ≡ o → o ≡ none
      go none given = refl
      go (some x) given = absurd (false≢true (ap (λ (o : Outcome). o.handed) (sym (call_refused before n k (M e n k s) (N e n k s) b.state b.came b.memory given)) ∙ busy))

  buffer_words : cond this.handed (over_front this.leaving b.out) [] ≡ this.leaving
  buffer_words = go this.handed refl
    where
      go : (h : Bool) → this.handed ≡ h → cond h (over_front this.leaving b.out) [] ≡ this.leaving
      go false idle = sym (call_idle before n k (M e n k s) (N e n k s) b.state b.came b.memory idle)
      go true busy =
          let (_, (_, (room, _))) = (sheet_call_sound e n k s b (not_refused busy)).right in
          whole_buffer this.leaving b.out
          (call_leaving before n k (M e n k s) (N e n k s) b.state b.came b.memory ∙ ap (λ (h : Bool). cond h (2 ^ k) 0) busy ∙ sym room)

module _ {e : Edition} {n k : ℕ} {s : List ℕ} {S : List (List ℕ)} {b : ℕ → Lent} {l : ℕ → After} (made : Made e n k s S b l) where
  abbrev tool : ℕ → Stand → Outcome
  tool = tool_call e n k s S (λ j. (b j).out)

  abbrev stand : ℕ → Stand
  stand j = record { state = (b j).state; memory = (b j).memory }

  abbrev seen : ℕ → Seen
  seen j = seen_by (l j)

  lent_as : (j : ℕ) → j < length S → tool j (stand j) ≡ sheet_call e n k s (b j)
  lent_as j h = ap (λ (ws : List ℕ). sheet_call e n k s (record { state = (b j).state; came = ws; memory = (b j).memory; out = (b j).out })) (sym (made.brings j h))

  made_here : (j : ℕ) → j < length S → ComesOf (tool j (stand j)) (b j) (l j)
  made_here j h = rw (lent_as j h) (made.answered j h)

  pub made_stands : (j : ℕ) → j ≤ length S → stands (tool_call e n k s S (λ j. (b j).out)) (start_of b) j ≡ record { state = (b j).state; memory = (b j).memory }
  unfolding standing
  made_stands zero h = refl
  made_stands (suc j) h =
      let comes = made_here j h in
      ap (λ (y : Stand). stand_after (tool j y)) (made_stands j (omega arith))
      ∙ ap₂ (λ (st : State) (m : Memory). record { state = st; memory = m }) (sym (made.state_on j h ∙ comes.state)) (sym (made.memory_on j h ∙ comes.memory))

  pub made_comes : (j : ℕ) → j < length S → ComesOf (outcome_at (tool_call e n k s S (λ j. (b j).out)) (start_of b) j) (b j) (l j)
  made_comes j h = rw (made_stands j (omega arith)) (made_here j h)

  pub made_seen : (j : ℕ) → j < length S → seen_by (l j) ≡ seen_at (tool_call e n k s S (λ j. (b j).out)) (start_of b) j
  made_seen j h =
      let comes : ComesOf (sheet_call e n k s (b j)) (b j) (l j) = made.answered j h in
      let leaving : cond (handed_out (l j).answer) (l j).out [] ≡ (sheet_call e n k s (b j)).leaving = rw (comes.handed, comes.buffer) (buffer_words e n k s (b j)) in
      let now : seen_by (l j) ≡ seen_of (sheet_call e n k s (b j)) = rw (comes.refusal, leaving, comes.handed) in
      now ∙ ap seen_of (sym (lent_as j h)) ∙ ap (λ (y : Stand). seen_of (tool j y)) (sym (made_stands j (omega arith)))

  pub made_conserved : AllZero (b 0).memory.marks → (j : ℕ) → j ≤ length S
      → words_taken (λ i. seen_by (l i)) S j ≡ filled_marks (b j).memory.marks + words_handed (λ i. seen_by (l i)) j
  made_conserved zeros j h =
      taken_same S j (λ i l. made_seen i (omega arith))
      ∙ tool_conserved e n k s S (λ j. (b j).out) (start_of b) zeros j
      ∙ ap₂ (λ (y : Stand) (w : ℕ). filled_marks y.memory.marks + w) (made_stands j h) (sym (handed_same j (λ i l. made_seen i (omega arith))))

  module _ (sized : Sized e n k) (whole : length s ≡ sheet_places e) (formed : WellFormed e n k s) (room : (j : ℕ) → j < length S → length (b j).out ≡ 2 ^ k)
      (fresh : Fresh n k (start_of b)) (series : Series k S) {C : List ℕ} (right : Right e n k C s) where
    pub made_right : RightOver 0 n k (λ F. place C) (λ j. seen_by (l j)) S
    made_right = over_same made_seen (tool_right e n k s S (λ j. (b j).out) (start_of b) sized whole formed room fresh series right)

    pub made_tick : Order n C → {F T c : ℕ} → CompletedIn n S F T → c < ticks n k → T + 1 + c < length S → (f : List ℕ) → Moved n C (frame n S F) f
        → (seen_by (l (T + 1 + c))).leaving ≡ words_of_tick k f c
    made_tick order completed early reach f moved =
        ap (λ (o : Seen). o.leaving) (made_seen _ reach)
        ∙ tool_tick e n k s S (λ j. (b j).out) (start_of b) sized whole formed room fresh series order right completed early reach f moved

    pub made_hands : Order n C → (j : ℕ) → j < length S → Says (seen_by (l j)).handed (TickDue 0 n k S j)
    made_hands order j h =
        subst (λ (o : Seen). Says o.handed (TickDue 0 n k S j)) (sym (made_seen j h))
        (tool_hands e n k s S (λ j. (b j).out) (start_of b) sized whole formed room fresh series order right j h)

module _ {e : Edition} {n k : ℕ} {s : List ℕ} {S R : List (List ℕ)} {b c : ℕ → Lent} {l u : ℕ → After} (made : Made e n k s S b l) (other : Made e n k s R c u) where
  pub made_alone : Sized e n k → length s ≡ sheet_places e → WellFormed e n k s → {C : List ℕ} → Order n C → Right e n k C s
      → ((j : ℕ) → j < length S → length (b j).out ≡ 2 ^ k) → ((j : ℕ) → j < length R → length (c j).out ≡ 2 ^ k)
      → Fresh n k (start_of b) → Fresh n k (start_of c) → Series k S → Series k R → SamePattern S R
      → {F T i : ℕ} → frame n S F ≡ frame n R F → CompletedIn n S F T → i < ticks n k → T + 1 + i < length S
      → (seen_by (l (T + 1 + i))).leaving ≡ (seen_by (u (T + 1 + i))).leaving
  made_alone sized whole formed order right room space fresh also series others same words completed early reach =
      ap (λ (o : Seen). o.leaving) (made_seen made _ reach)
      ∙ tool_alone sized whole formed order right (start_of b) (start_of c) S R (λ j. (b j).out) (λ j. (c j).out) room space fresh also series others same words completed early reach
      ∙ sym (ap (λ (o : Seen). o.leaving) (made_seen other _ (rw (← same.calls) reach)))
