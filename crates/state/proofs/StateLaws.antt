-- How a call changes the state, step by step.
--   after_the_read T st         the state after the read
--   after_the_write st ws       after the write
--   turned T st            and where that completes a frame: next is turned after after_the_write after after_the_read
--   next_clock_law             the clock after a call is the one that the clock goes on to
--   next_blank             a blank tick pauses the frame that comes in
--   next_part              words that don't complete it are counted
--   next_full              words that do start the next one, and the reader
--   next_possible          the state after a possible one is possible
use Prim.Native.Nat.{ℕ, ◌+◌, ◌-◌, ◌<◌}
use mathlib.Core.Path.{◌≡◌, refl}
use mathlib.Core.Bool.{Bool, true, false, cond}
use mathlib.Core.List.{List, [], ◌∷◌}
use mathlib.Core.Logic.{◌≢◌}
use native.Mathlib.Omega.{arith}
use borrow.Author.Tests.{eq-eqb, ne_eqb}
use lib.Dec.{eqb}
use Rattle.state.specs.Clocks.{next_clock}
use Rattle.state.specs.States.{clock_of, Possible, reading, words_came, next}
use Rattle.state.specs.declared.State.{State}
use Rattle.state.proofs.ClockLaws.{clock_possible}

abbrev pub after_the_read : ℕ → State → State
after_the_read T st = record { a = st.a; h = st.h; r = cond (reading T st) (st.r + 1) st.r }

abbrev pub after_the_write : State → List ℕ → State
after_the_write st ws = record { a = cond (words_came ws) (st.a + 1) st.a; h = st.h; r = st.r }

abbrev pub turned : ℕ → State → State
turned T st = cond (eqb st.a T) (record { a = 0; h = 1 - st.h; r = 0 }) st

module _ (T : ℕ) (st : State) where
  pub next_clock_law : (ws : List ℕ) → clock_of (next T st ws) ≡ next_clock T (clock_of st) (words_came ws)
  next_clock_law ws = go (eqb (after_the_write st ws).a T)
    where
      go : (b : Bool) → clock_of (cond b (record { a = 0; h = 1 - st.h; r = 0 }) (after_the_write (after_the_read T st) ws)) ≡ cond b (record { a = 0; r = 0 }) (clock_of (after_the_write (after_the_read T st) ws))
      go true = refl
      go false = refl

  pub next_blank : st.a < T → next T st [] ≡ record { a = st.a; h = st.h; r = (after_the_read T st).r }
  next_blank part = rw (ne_eqb st.a T (omega arith))

  pub next_part : (w : ℕ) (ws : List ℕ) → st.a + 1 ≢ T → next T st (w ∷ ws) ≡ record { a = st.a + 1; h = st.h; r = (after_the_read T st).r }
  next_part w ws part = rw (ne_eqb (st.a + 1) T part)

  pub next_full : (w : ℕ) (ws : List ℕ) → st.a + 1 ≡ T → next T st (w ∷ ws) ≡ record { a = 0; h = 1 - st.h; r = 0 }
  next_full w ws full = rw (eq-eqb (st.a + 1) T full)

  pub next_possible : (ws : List ℕ) → Possible T st → Possible T (next T st ws)
  next_possible ws ok = record { clock = rw (next_clock_law ws) (clock_possible T (clock_of st) (words_came ws) ok.clock); half = half (eqb (after_the_write st ws).a T) }
    where
      half : (b : Bool) → (cond b (record { a = 0; h = 1 - st.h; r = 0 }) (after_the_write (after_the_read T st) ws)).h < 2
      half true = omega arith
      half false = ok.half
