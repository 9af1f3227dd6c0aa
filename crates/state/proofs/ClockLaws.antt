-- The clock of a run.
--   read_more, read_idle   where a tick is read r grows by 1, and else it stays
--   clock_blank            a blank tick pauses the frame that comes in
--   clock_part             words that don't complete it are counted
--   clock_full             words that do start the next one, and the reader
--   clock_possible         the clock after a possible one is possible
--   full_last              a possible clock is full after the call exactly when the call completes the frame
use Prim.Native.Nat.{ℕ, ◌+◌, ◌<◌, ◌≤◌}
use mathlib.Core.Path.{◌≡◌, refl}
use mathlib.Core.Bool.{Bool, true, false}
use mathlib.Core.Logic.{◌≢◌}
use native.Mathlib.Decide.{ℕ_discrete, dec_lt}
use native.Mathlib.Omega.{arith}
use borrow.Author.Tests.{eqb-true, lt-ltb, le-ltb, eq-eqb, ne_eqb}
use Rattle.kinds.specs.Answers.{Says}
use Rattle.kinds.proofs.TruthLaws.{false≢true, says_no}
use Rattle.state.specs.Clocks.{PossibleClock, read_on, counted, full, started_anew, next_clock, Completes}
use Rattle.state.specs.declared.Clock.{Clock}

module _ (T : ℕ) (c : Clock) where
  pub read_more : c.r < T → (read_on T c).r ≡ c.r + 1
  read_more busy = rw (lt-ltb c.r T busy)

  pub read_idle : T ≤ c.r → (read_on T c).r ≡ c.r
  read_idle idle = rw (le-ltb c.r T idle)

  pub clock_blank : c.a < T → next_clock T c false ≡ record { a = c.a; r = (read_on T c).r }
  clock_blank part = rw (ne_eqb c.a T (omega arith))

  pub clock_part : c.a + 1 ≢ T → next_clock T c true ≡ record { a = c.a + 1; r = (read_on T c).r }
  clock_part part = rw (ne_eqb (c.a + 1) T part)

  pub clock_full : c.a + 1 ≡ T → next_clock T c true ≡ record { a = 0; r = 0 }
  clock_full full = rw (eq-eqb (c.a + 1) T full)

module _ (T : ℕ) where
  after_read : (c : Clock) (came : Bool) → PossibleClock T c → c.a < c.r → PossibleClock T (started_anew T (counted c came))
  after_read c false ok ahead = rw (ne_eqb c.a T (omega arith)) ok
  after_read c true ok ahead = elim (ℕ_discrete (c.a + 1) T) [
    | yes full ↦ rw (eq-eqb (c.a + 1) T full) (omega arith)
    | no part ↦ rw (ne_eqb (c.a + 1) T part) (omega arith)
  ]

  pub clock_possible : (c : Clock) (came : Bool) → PossibleClock T c → PossibleClock T (next_clock T c came)
  clock_possible c came ok = elim (dec_lt c.r T) [
    | yes busy ↦ rw (lt-ltb c.r T busy) (after_read (record { a = c.a; r = c.r + 1 }) came (omega arith) (omega arith))
    | no idle ↦ rw (le-ltb c.r T (omega arith)) (after_read c came ok (omega arith))
  ]

pub full_last : (T : ℕ) (c : Clock) (came : Bool) → PossibleClock T c → Says (full T (counted (read_on T c) came)) (Completes T c came)
full_last T c true ok = (λ e. record { possible = ok; words = refl; last = eqb-true (c.a + 1) T e }, λ last. eq-eqb (c.a + 1) T last.last)
full_last T c false ok = rw (ne_eqb c.a T (omega (arith, ok.incoming))) (says_no (λ last. false≢true last.words))
