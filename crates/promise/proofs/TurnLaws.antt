-- When frames are read, as long as no call is refused: the clock of a run follows the series.
--   reads_in_turn    a frame completed in call T is read from call T + 1 on, a tick in each call, and the next frame is not completed before it is read
--   reads_only       and where a tick is read, it is one of such a frame
use Prim.Native.Nat.{ℕ, zero, suc, ◌+◌, ◌<◌, ◌≤◌}
use mathlib.Core.Path.{◌≡◌, refl, ap, ◌∙◌}
use mathlib.Core.List.{List}
use mathlib.Core.Logic.{◌⊎◌, inl, inr}
use native.Mathlib.Decide.{dec_lt}
use native.Mathlib.Nat.{le-div_iff_mul-le, div-lt_iff_lt-mul}
use native.Mathlib.Omega.{arith}
use lib.ListN.{length}
use lib.Pow.{pow_pos}
use Rattle.kinds.specs.Frame.{tick_bits, ticks}
use Rattle.state.specs.Clocks.{read_on}
use Rattle.state.specs.declared.Clock.{Clock}
use Rattle.state.proofs.ClockLaws.{read_more, read_idle}
use Rattle.promise.proofs.SeriesLaws.{WholeTicks}
use Rattle.promise.specs.Series.{CompletedIn, TickDue}
use Rattle.promise.specs.Run.{incoming}
use Rattle.promise.proofs.CountedLaws.{Counted, clock_after, Stays, Turns, counted_call}

module _ {n k : ℕ} (within : k ≤ n) (S : List (List ℕ)) (whole : WholeTicks k S) (clock : ℕ → Clock) (counted : (j : ℕ) → j ≤ length S → Counted n k S j (clock j))
    (goes : (j : ℕ) → j < length S → clock (suc j) ≡ clock_after n k S j (clock j)) where
  way_of : (j : ℕ) → j < length S → Stays n k S j (clock j) ⊎ Turns n k S j (clock j)
  way_of j reach = (counted_call within (counted j (omega arith)) reach (whole j reach)).0

  reader_after : (j : ℕ) → j < length S → (clock (suc j)).r ≡ (clock_after n k S j (clock j)).r
  reader_after j reach = ap (λ (c : Clock). c.r) (goes j reach)

  module _ {F T : ℕ} (completed : CompletedIn n S F T) where
    turned_then : Turns n k S T (clock T) × (incoming n S T ≡ F)
    turned_then =
        let early : incoming n S T < F + 1 = (div-lt_iff_lt-mul (pow_pos n)).1 completed.not_before in
        let late : F + 1 ≤ incoming n S (suc T) = (le-div_iff_mul-le (pow_pos n)).1 completed.by_then in
        go early late (way_of T completed.reached)
      where
        go : incoming n S T < F + 1 → F + 1 ≤ incoming n S (suc T) → Stays n k S T (clock T) ⊎ Turns n k S T (clock T) → Turns n k S T (clock T) × (incoming n S T ≡ F)
        go early late (inl stays) = absurd (omega (arith, early, late, stays.frame))
        go early late (inr turns) = (turns, omega (arith, early, late, turns.frame))

    pub reads_in_turn : (c j : ℕ) → c < ticks n k → j ≡ T + 1 + c → j ≤ length S → ((clock j).r ≡ c) × (incoming n S j ≡ F + 1)
    reads_in_turn zero j l is reach =
        let (turns, frame) = turned_then in
        let then : j ≡ suc T = omega (arith, is) in
        rw then (reader_after T completed.reached ∙ turns.reader, omega (arith, turns.frame, frame))
    reads_in_turn (suc c) j l is reach =
        let i : ℕ = T + 1 + c in
        let before : i < length S = omega (arith, is, reach) in
        let (r, frame) = reads_in_turn c i (omega arith) refl (omega arith) in
        let then : j ≡ suc i = omega (arith, is) in
        rw then (go i before r frame (way_of i before))
      where
        go : (i : ℕ) → i < length S → (clock i).r ≡ c → incoming n S i ≡ F + 1 → Stays n k S i (clock i) ⊎ Turns n k S i (clock i)
            → ((clock (suc i)).r ≡ suc c) × (incoming n S (suc i) ≡ F + 1)
        go i before r frame (inl stays) = (
          reader_after i before ∙ stays.reader ∙ read_more (ticks n k) (clock i) (omega (arith, r)) ∙ omega (arith, r),
          stays.frame ∙ frame,
        )
        go i before r frame (inr turns) = absurd (omega (arith, turns.full.last, (counted i (omega arith)).possible.behind, r))

  completes_now : (j : ℕ) → j < length S → Turns n k S j (clock j) → CompletedIn n S (incoming n S j) j
  completes_now j reach turns = record {
    reached = reach;
    not_before = (div-lt_iff_lt-mul (pow_pos n)).0 (omega arith);
    by_then = (le-div_iff_mul-le (pow_pos n)).0 (omega (arith, turns.frame));
  }

  -- the tick that is read in call j is due then
  abbrev DueNow : ℕ → Type 0
  DueNow j = (due : TickDue 0 n k S j) × (due.2 ≡ (clock j).r)

  due_next : (j : ℕ) → j < length S → ((clock j).r < ticks n k → DueNow j) → (clock (suc j)).r < ticks n k → Stays n k S j (clock j) ⊎ Turns n k S j (clock j) → DueNow (suc j)
  due_next j reach before busy (inl stays) =
      let r : (clock (suc j)).r ≡ (read_on (ticks n k) (clock j)).r = reader_after j reach ∙ stays.reader in
      elim (dec_lt (clock j).r (ticks n k)) [
        | yes reads ↦
            let ((F, T, c, completed, early, then), tick) = before reads in
            let more = read_more (ticks n k) (clock j) reads in
            ((F, T, c + 1, completed, omega (arith, r, more, tick), omega (arith, then)), omega (arith, r, more, tick))
        | no idle ↦ absurd (omega (arith, r, read_idle (ticks n k) (clock j) (omega arith)))
      ]
  due_next j reach before busy (inr turns) =
      ((incoming n S j, j, 0, completes_now j reach turns, pow_pos (tick_bits n k), omega arith), omega (arith, reader_after j reach ∙ turns.reader))

  pub reads_only : (clock 0).r ≡ ticks n k → (j : ℕ) → j ≤ length S → (clock j).r < ticks n k → DueNow j
  reads_only idle zero reach busy = absurd (omega arith)
  reads_only idle (suc j) reach busy = due_next j reach (reads_only idle j (omega arith)) busy (way_of j reach)
