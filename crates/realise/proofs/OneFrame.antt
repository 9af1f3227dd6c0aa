-- One frame and then as many blank calls, where word i of the frame is u i.
--   one_frame_length      it has 2^t calls and then 2^t blank ones
--   came, came_at         a call of the frame brings 2^k words, those of its tick
--   some_came             so it is not blank
--   blank_call            the calls after the frame are
--   completed             the last call of the frame completes it
--   word_in_law               word i of frame 0 is u i
--   one_frame_series      it is a series of calls, if the words have 32 bits
use Prim.Native.Nat.{ℕ, zero, suc, ◌+◌, ◌-◌, ◌*◌, ◌^◌, ◌<◌, ◌≤◌}
use mathlib.Core.Path.{◌≡◌, refl, ap, ◌∙◌}
use mathlib.Core.List.{List, [], flatten}
use mathlib.Core.Logic.{inl, inr}
use native.Mathlib.Decide.{dec_lt}
use native.Mathlib.Nat.{suc-mul}
use native.Mathlib.Omega.{arith}
use borrow.Author.Tests.{lt-ltb, le-ltb}
use lib.ListN.{length, get_or}
use lib.Pow.{pow_pos, suc_ones, split}
use Rattle.kinds.specs.Frame.{tick_bits, ticks, tick_of, port_of, word_at, in_order}
use Rattle.kinds.proofs.FrameLaws.{frame_whole, tick_lt, port_lt, word_lt, in_order_length, in_order_at}
use Rattle.promise.specs.Series.{one_frame, call_at, Series, words_before, word_in, CompletedIn}
use Rattle.promise.proofs.SeriesLaws.{before_none, before_more, word_comes}

module _ (n k : ℕ) (u : ℕ → ℕ) where
  abbrev T : ℕ
  T = ticks n k

  abbrev one_frame_law : List (List ℕ)
  one_frame_law = one_frame n k u

  pub one_frame_length : length one_frame_law ≡ 2 * T
  one_frame_length = in_order_length (2 * T) _

  frame_call : (c : ℕ) → c < T → call_at one_frame_law c ≡ in_order (2 ^ k) (λ p. u (word_at k c p))
  frame_call c h = in_order_at (2 * T) _ [] c (omega arith) ∙ rw (lt-ltb c T h)

  pub blank_call : (c : ℕ) → c < T → call_at one_frame_law (T + c) ≡ []
  blank_call c h = in_order_at (2 * T) _ [] (T + c) (omega arith) ∙ rw (le-ltb (T + c) T (omega arith))

  pub came : (c : ℕ) → c < T → length (call_at one_frame_law c) ≡ 2 ^ k
  came c h = ap length (frame_call c h) ∙ in_order_length (2 ^ k) _

  pub some_came : (c : ℕ) → c < T → 0 < length (call_at one_frame_law c)
  some_came c h = omega (arith, came c h, pow_pos k)

  pub came_at : (c p : ℕ) → c < T → p < 2 ^ k → get_or (call_at one_frame_law c) p 0 ≡ u (word_at k c p)
  came_at c p h l = ap (λ (ws : List ℕ). get_or ws p 0) (frame_call c h) ∙ in_order_at (2 ^ k) _ 0 p l

  before_frame_call : (c : ℕ) → c ≤ T → words_before one_frame_law c ≡ c * 2 ^ k
  before_frame_call zero h = omega (arith, before_none one_frame_law)
  before_frame_call (suc c) h =
      omega (arith, before_more one_frame_law c (omega (arith, one_frame_length)), came c (omega arith), before_frame_call c (omega arith), suc-mul c (2 ^ k))

  module _ (within : k ≤ n) where
    pub completed : CompletedIn n one_frame_law 0 (T - 1)
    completed =
        let all : suc (T - 1) * 2 ^ k ≡ 2 ^ n = ap (λ (c : ℕ). c * 2 ^ k) (suc_ones (tick_bits n k)) ∙ frame_whole within in
        let some = pow_pos (tick_bits n k) in
        record {
          reached = omega (arith, one_frame_length);
          not_before = omega (arith, before_frame_call (T - 1) (omega arith), suc-mul (T - 1) (2 ^ k), pow_pos k);
          by_then = omega (arith, before_frame_call (suc (T - 1)) (omega arith));
        }

    pub word_in_law : (i : ℕ) → i < 2 ^ n → word_in n one_frame_law 0 i ≡ u i
    word_in_law i h =
        let c = tick_of k i in
        let p = port_of k i in
        let tick : c < T = tick_lt within h in
        let port : p < 2 ^ k = port_lt k i in
        let comes : 0 * 2 ^ n + i ≡ words_before one_frame_law c + p = omega (arith, before_frame_call c (omega arith), split i k) in
        ap (λ (x : ℕ). get_or (flatten one_frame_law) x 0) comes
        ∙ word_comes one_frame_law c p (omega (arith, one_frame_length)) (rw (came c tick) port)
        ∙ came_at c p tick port
        ∙ ap u (split i k)

    pub one_frame_series : ((i : ℕ) → i < 2 ^ n → u i < 2 ^ 32) → Series k one_frame_law
    one_frame_series small j h = elim (dec_lt j T) [
      | yes l ↦ record {
        count = inl (came j l);
        words = λ p b. let port : p < 2 ^ k = omega (arith, came j l) in rw (came_at j p l port) (small (word_at k j p) (word_lt within l port));
      }
      | no late ↦
          let blank : call_at one_frame_law j ≡ [] = ap (call_at one_frame_law) (omega arith) ∙ blank_call (j - T) (omega (arith, one_frame_length)) in
          rw blank (record { count = inr refl; words = λ p b. absurd (omega arith) })
    ]
