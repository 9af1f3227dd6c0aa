-- A run that keeps what it needs from call to call is right over every series, whatever its stands are. The order may differ from frame to frame: P F is that of frame F.
-- Where y is a stand: clock y is its clock, seen j y what is seen of call j, made from y, and after j y where the run stands then. Held F G y says what is asked of y where frame F comes in and G is read.
--   Now j y          before call j the run stands at y: the clock has counted the series, and what is asked is so
--   Keeps            the call is not refused, and hands out the words of the tick that is read; after it what is asked is so again, of the same two frames, or, where it completes the frame that comes in, of that
--                    and the next; and the clock goes on, and says whether a tick is handed out
--   never_refused    no call is refused
--   family_right     the run is right
--   family_hands     and a tick is handed out exactly in the calls in which one is due
use Prim.Native.Nat.{ℕ, zero, suc, ◌+◌, ◌^◌, ◌<◌, ◌≤◌}
use mathlib.Core.Path.{◌≡◌, refl, sym, ap, subst, ◌∙◌}
use mathlib.Core.Bool.{true}
use mathlib.Core.List.{List}
use mathlib.Core.Logic.{◌⊎◌, inl, inr}
use mathlib.Core.Option.{none}
use native.Mathlib.Nat.{zero-div}
use native.Mathlib.Omega.{arith}
use borrow.Author.Tests.{ltb-true, lt-ltb}
use lib.Dec.{ltb}
use lib.ListN.{length}
use lib.Pow.{pow_pos}
use Rattle.kinds.specs.Frame.{tick_bits, ticks, tick_of, port_of}
use Rattle.kinds.specs.Answers.{Says}
use Rattle.kinds.specs.Refusal.{given}
use Rattle.kinds.proofs.FrameLaws.{tick_lt}
use Rattle.span.specs.Maps.{Into}
use Rattle.state.specs.Clocks.{clock_reading, Completes}
use Rattle.state.specs.States.{words_came}
use Rattle.state.specs.declared.Clock.{Clock}
use Rattle.promise.proofs.SeriesLaws.{WholeTicks, before_none}
use Rattle.promise.specs.Series.{call_at, word_in, TickDue}
use Rattle.promise.specs.Seen.{Seen, Leaves, LeaveDue, RightOver}
use Rattle.promise.specs.Run.{standing, incoming, outgoing}
use Rattle.promise.proofs.CountedLaws.{Counted, clock_after, Stays, Turns, counted_call}
use Rattle.promise.proofs.TurnLaws.{reads_in_turn, reads_only}

module _ (n k : ℕ) (S : List (List ℕ)) (P : ℕ → ℕ → ℕ) {Y : Type 0} (clock : Y → Clock) (seen : ℕ → Y → Seen) (after : ℕ → Y → Y) (Held : ℕ → ℕ → Y → Type 0) where
  pub record Now (j : ℕ) (y : Y) : Type 0 where
    pub counted : Counted n k S j (clock y)
    pub held : Held (incoming n S j) (outgoing n S j) y

  pub record Keeps : Type 0 where
    pub goes : {j : ℕ} {y : Y} → j < length S → Now j y → clock (after j y) ≡ clock_after n k S j (clock y)
    pub hands : {j : ℕ} {y : Y} → j < length S → Now j y → (seen j y).handed ≡ clock_reading (ticks n k) (clock y)
    pub sound : {j : ℕ} {y : Y} → j < length S → Now j y → (seen j y).refusal ≡ none
    pub word : {j : ℕ} {y : Y} → j < length S → Now j y → (i : ℕ) → i < 2 ^ n → tick_of k (P (outgoing n S j) i) ≡ (clock y).r
        → Leaves (seen j y) (port_of k (P (outgoing n S j) i)) (word_in n S (outgoing n S j) i)
    pub stays : {j : ℕ} {y : Y} → j < length S → Now j y → ¬ Completes (ticks n k) (clock y) (words_came (call_at S j)) → Held (incoming n S j) (outgoing n S j) (after j y)
    pub turns : {j : ℕ} {y : Y} → j < length S → Now j y → Completes (ticks n k) (clock y) (words_came (call_at S j)) → Held (incoming n S j + 1) (incoming n S j) (after j y)

module _ {n k : ℕ} (within : k ≤ n) {S : List (List ℕ)} (whole : WholeTicks k S) {P : ℕ → ℕ → ℕ} (into : (F : ℕ) → Into (P F) (2 ^ n) (2 ^ n))
    {Y : Type 0} {clock : Y → Clock} {seen : ℕ → Y → Seen} {after : ℕ → Y → Y} {Held : ℕ → ℕ → Y → Type 0} (keeps : Keeps n k S P clock seen after Held)
    (x : Y) (idle : clock x ≡ record { a = 0; r = ticks n k }) (first : Held (incoming n S 0) (outgoing n S 0) x) where
  abbrev at : ℕ → Y
  at = standing after x

  abbrev AtCall : ℕ → Y → Type 0
  AtCall = Now n k S P clock seen after Held

  at_next : (j : ℕ) → at (suc j) ≡ after j (at j)
  unfolding standing
  at_next j = refl

  at_first : at 0 ≡ x
  unfolding standing
  at_first = refl

  now_more : {j : ℕ} {y : Y} → j < length S → AtCall j y → AtCall (suc j) (after j y)
  now_more {j} {y} reach now = go way.0
    where
      way : (Stays n k S j (clock y) ⊎ Turns n k S j (clock y)) × Counted n k S (suc j) (clock_after n k S j (clock y))
      way = counted_call within now.counted reach (whole j reach)

      then : Counted n k S (suc j) (clock (after j y))
      then = rw (keeps.goes reach now) way.1

      go : Stays n k S j (clock y) ⊎ Turns n k S j (clock y) → AtCall (suc j) (after j y)
      go (inl stays) = record { counted = then; held = rw stays.frame (keeps.stays reach now stays.part) }
      go (inr turns) =
          let read : outgoing n S (suc j) ≡ incoming n S j = omega (arith, turns.frame) in
          record { counted = then; held = rw read (rw turns.frame (keeps.turns reach now turns.full)) }

  now_first : AtCall 0 x
  now_first = record {
    counted = rw idle (record { possible = omega (arith, pow_pos (tick_bits n k)); counted = rw (before_none S, zero-div (2 ^ n)) (omega arith) });
    held = first;
  }

  now_at : (j : ℕ) → j ≤ length S → AtCall j (at j)
  now_at zero reach = rw at_first now_first
  now_at (suc j) reach = rw (at_next j) (now_more reach (now_at j (omega arith)))

  now : (j : ℕ) → j < length S → AtCall j (at j)
  now j reach = now_at j (omega arith)

  pub never_refused : (j : ℕ) → j < length S → (seen j (standing after x j)).refusal ≡ none
  never_refused j reach = keeps.sound reach (now j reach)

  counted_at : (j : ℕ) → j ≤ length S → Counted n k S j (clock (at j))
  counted_at j reach = (now_at j reach).counted

  goes_at : (j : ℕ) → j < length S → clock (at (suc j)) ≡ clock_after n k S j (clock (at j))
  goes_at j reach = ap clock (at_next j) ∙ keeps.goes reach (now j reach)

  leaves : LeaveDue 0 n k P (λ j. seen j (at j)) S
  leaves F T i j completed l is reach =
      let tick : tick_of k (P F i) < ticks n k = tick_lt within (into F i l) in
      let (r, frame) = reads_in_turn within S whole (λ j. clock (at j)) counted_at goes_at completed (tick_of k (P F i)) j tick (omega (arith, is)) (omega arith) in
      let read : outgoing n S j ≡ F = omega (arith, frame) in
      subst (λ (G : ℕ). Leaves (seen j (at j)) (port_of k (P G i)) (word_in n S G i)) read
      (keeps.word reach (now j reach) i l (ap (λ (G : ℕ). tick_of k (P G i)) read ∙ sym r))

  pub family_right : RightOver 0 n k P (λ j. seen j (standing after x j)) S
  family_right = record { no_fault = λ j reach (low, high). omega (arith, ap given (never_refused j reach), low); leaves = leaves }

  pub family_hands : (j : ℕ) → j < length S → Says (seen j (standing after x j)).handed (TickDue 0 n k S j)
  family_hands j reach = rw (keeps.hands reach (now j reach)) (to, from)
    where
      to : ltb (clock (at j)).r (ticks n k) ≡ true → TickDue 0 n k S j
      to busy = (reads_only within S whole (λ j. clock (at j)) counted_at goes_at (ap (λ (y : Y). (clock y).r) at_first ∙ ap (λ (c : Clock). c.r) idle) j (omega arith) (ltb-true (clock (at j)).r (ticks n k) busy)).0

      from : TickDue 0 n k S j → ltb (clock (at j)).r (ticks n k) ≡ true
      from (F, T, c, completed, early, then) =
          let (r, _) = reads_in_turn within S whole (λ j. clock (at j)) counted_at goes_at completed c j early (omega (arith, then)) (omega arith) in
          lt-ltb (clock (at j)).r (ticks n k) (omega (arith, r, early))
