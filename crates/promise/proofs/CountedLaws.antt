-- How the clock follows a series, as long as no call is refused.
--   Counted n k S j c    the clock c before call j: possible, and a ticks of the incoming frame have come
--   clock_after n k S j c the clock after it--   Stays, Turns         a call that completes no frame, and one that does: the frame that comes in, and the reader, after it
--   counted_call         every call is one of them, and the clock after it is counted too
use Prim.Native.Nat.{ℕ, suc, ◌+◌, ◌*◌, ◌/◌, ◌^◌, ◌<◌, ◌≤◌}
use mathlib.Core.Path.{◌≡◌, refl, sym, ap, ap₂, ◌∙◌}
use mathlib.Core.List.{List, [], ◌∷◌}
use mathlib.Core.Logic.{◌⊎◌, inl, inr}
use native.Mathlib.Decide.{ℕ_discrete}
use native.Mathlib.Nat.{add-mul, mul-lt-mul_of_pos_right}
use native.Mathlib.Omega.{arith}
use lib.ListN.{length}
use lib.Pow.{pow_pos, high}
use Rattle.kinds.specs.Frame.{tick_bits, ticks}
use Rattle.kinds.proofs.FrameLaws.{frame_whole}
use Rattle.kinds.proofs.TruthLaws.{false≢true}
use Rattle.state.specs.Clocks.{PossibleClock, read_on, next_clock, Completes}
use Rattle.state.specs.States.{words_came}
use Rattle.state.specs.declared.Clock.{Clock}
use Rattle.state.proofs.ClockLaws.{clock_blank, clock_part, clock_full, clock_possible}
use Rattle.call.proofs.PlaceLaws.{came_all}
use Rattle.promise.proofs.SeriesLaws.{WholeTick, before_more}
use Rattle.promise.specs.Series.{call_at, words_before}
use Rattle.promise.specs.Run.{incoming}

module _ (n k : ℕ) (S : List (List ℕ)) where
  pub record Counted (j : ℕ) (c : Clock) : Type 0 where
    pub possible : PossibleClock (ticks n k) c
    pub counted : words_before S j ≡ incoming n S j * 2 ^ n + c.a * 2 ^ k

  abbrev pub clock_after : ℕ → Clock → Clock
  clock_after j c = next_clock (ticks n k) c (words_came (call_at S j))

  pub record Stays (j : ℕ) (c : Clock) : Type 0 where
    pub frame : incoming n S (suc j) ≡ incoming n S j
    pub reader : (clock_after j c).r ≡ (read_on (ticks n k) c).r
    pub part : ¬ Completes (ticks n k) c (words_came (call_at S j))

  pub record Turns (j : ℕ) (c : Clock) : Type 0 where
    pub frame : incoming n S (suc j) ≡ incoming n S j + 1
    pub reader : (clock_after j c).r ≡ 0
    pub full : Completes (ticks n k) c (words_came (call_at S j))

module _ {n k : ℕ} (within : k ≤ n) {S : List (List ℕ)} {j : ℕ} {c : Clock} (now : Counted n k S j c) where
  abbrev T : ℕ
  T = ticks n k

  -- the frame that comes in before the next call, where a ticks of it have come
  frame_of : (F a : ℕ) → words_before S (suc j) ≡ F * 2 ^ n + a * 2 ^ k → a < T → incoming n S (suc j) ≡ F
  frame_of F a e l = ap (λ (b : ℕ). b / 2 ^ n) e ∙ high F n (omega (arith, mul-lt-mul_of_pos_right l (pow_pos k), frame_whole within))

  abbrev after : Clock
  after = clock_after n k S j c

  counted_by : (F a r : ℕ) → after ≡ record { a = a; r = r } → words_before S (suc j) ≡ F * 2 ^ n + a * 2 ^ k → a < T
      → (incoming n S (suc j) ≡ F) × Counted n k S (suc j) after
  counted_by F a r is e l =
      let frame = frame_of F a e l in
      (frame, record { possible = clock_possible T c (words_came (call_at S j)) now.possible; counted = e ∙ ap₂ (λ (b d : ℕ). b * 2 ^ n + d * 2 ^ k) (sym frame) (sym (ap (λ (x : Clock). x.a) is)) })

  pub counted_call : j < length S → WholeTick k (call_at S j) → (Stays n k S j c ⊎ Turns n k S j c) × Counted n k S (suc j) after
  counted_call reach whole = go (call_at S j) refl
    where
      go : (ws : List ℕ) → call_at S j ≡ ws → (Stays n k S j c ⊎ Turns n k S j c) × Counted n k S (suc j) after
      go [] e =
          let clock : after ≡ _ = ap (λ (l : List ℕ). next_clock T c (words_came l)) e ∙ clock_blank T c now.possible.incoming in
          let (frame, then) = counted_by (incoming n S j) c.a _ clock (omega (arith, before_more S j reach, ap length e, now.counted)) now.possible.incoming in
          (inl (record { frame = frame; reader = ap (λ (x : Clock). x.r) clock; part = λ full. false≢true (sym (ap words_came e) ∙ full.words) }), then)
      go (w ∷ ws) e =
          let brings : length (call_at S j) ≡ 2 ^ k = ap length e ∙ came_all (2 ^ k) w ws (rw e at whole) in
          let more : words_before S (suc j) ≡ incoming n S j * 2 ^ n + (c.a + 1) * 2 ^ k = omega (arith, before_more S j reach, brings, now.counted, add-mul c.a 1 (2 ^ k)) in
          elim (ℕ_discrete (c.a + 1) T) [
            | yes full ↦
                let clock : after ≡ _ = ap (λ (l : List ℕ). next_clock T c (words_came l)) e ∙ clock_full T c full in
                let (frame, then) = counted_by (incoming n S j + 1) 0 _ clock (omega (arith, more, rw full at more, frame_whole within, add-mul (incoming n S j) 1 (2 ^ n))) (pow_pos (tick_bits n k)) in
                (inr (record { frame = frame; reader = ap (λ (x : Clock). x.r) clock; full = record { possible = now.possible; words = ap words_came e; last = full } }), then)
            | no part ↦
                let clock : after ≡ _ = ap (λ (l : List ℕ). next_clock T c (words_came l)) e ∙ clock_part T c part in
                let l : c.a + 1 < T = omega (arith, part, now.possible.incoming) in
                let (frame, then) = counted_by (incoming n S j) (c.a + 1) _ clock more l in
                (inl (record { frame = frame; reader = ap (λ (x : Clock). x.r) clock; part = λ full. part full.last }), then)
          ]
