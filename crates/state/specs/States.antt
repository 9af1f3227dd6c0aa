-- The state of the run of a sheet, and how a call changes it (01, 'One tick of the run'). T is 2^t, the ticks of a frame; ws is the words that came, none of them on a blank tick.
--   clock_of st            the clock of st, without the half h
--   Possible T st         "possible states: a < 2^t, a <= r <= 2^t, h below 2"
--   reading T st          whether a tick is read out in this call: r < 2^t
--   words_came ws          whether words came
--   next T st ws          the state after the call: where a tick was read "r grows by 1", where words came "a grows by 1", and "when a reaches 2^t, a becomes 0, h changes, r becomes 0"
use Rattle.std.specs.Prelude.{ℕ, ◌+◌, ◌-◌, ◌<◌, Bool, true, false, cond, List, [], ◌∷◌, ltb, eqb}
use Rattle.state.specs.Clocks.{PossibleClock}
use Rattle.state.specs.declared.Clock.{Clock}
use Rattle.state.specs.declared.State.{State}

abbrev pub clock_of : State → Clock
clock_of st = record { a = st.a; r = st.r }

pub record Possible (T : ℕ) (st : State) : Type 0 where
  pub clock : PossibleClock T (clock_of st)
  pub half : st.h < 2

abbrev pub reading : ℕ → State → Bool
reading T st = ltb st.r T

abbrev pub words_came : List ℕ → Bool
words_came [] = false
words_came (w ∷ ws) = true

abbrev pub next : ℕ → State → List ℕ → State
next T st ws =
    let a = cond (words_came ws) (st.a + 1) st.a in
    let r = cond (reading T st) (st.r + 1) st.r in
    cond (eqb a T) (record { a = 0; h = 1 - st.h; r = 0 }) (record { a = a; h = st.h; r = r })
