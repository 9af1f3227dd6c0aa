-- The clock of a run: how many ticks of the incoming frame have come, and which tick is read next (01, 'One tick of the run'). T is 2^t, the ticks of a frame;
-- came says whether words came, false on a blank tick. Which half or which cells a run writes and reads is not said here.
--   PossibleClock T c       "a < 2^t, a <= r <= 2^t"
--   clock_reading T c        whether a tick is read out in this call: r < 2^t
--   read_on T c              the clock after the read: "r grows by 1"
--   counted c came          the clock after the write: "a grows by 1" if words came
--   full T c                a has reached 2^t
--   started_anew T c         "when a reaches 2^t, a becomes 0, .. r becomes 0"
--   next_clock T c came      the clock after the call
--   Completes T c came      the clock is possible, and the words that come are the last tick of the frame
use Rattle.std.specs.Prelude.{ℕ, ◌+◌, ◌<◌, ◌≤◌, ◌≡◌, Bool, true, cond, ltb, eqb}
use Rattle.state.specs.declared.Clock.{Clock}

pub record PossibleClock (T : ℕ) (c : Clock) : Type 0 where
  pub incoming : c.a < T
  pub behind : c.a ≤ c.r
  pub reader : c.r ≤ T

abbrev pub clock_reading : ℕ → Clock → Bool
clock_reading T c = ltb c.r T

abbrev pub read_on : ℕ → Clock → Clock
read_on T c = record { a = c.a; r = cond (clock_reading T c) (c.r + 1) c.r }

abbrev pub counted : Clock → Bool → Clock
counted c came = record { a = cond came (c.a + 1) c.a; r = c.r }

abbrev pub full : ℕ → Clock → Bool
full T c = eqb c.a T

abbrev pub started_anew : ℕ → Clock → Clock
started_anew T c = cond (full T c) (record { a = 0; r = 0 }) c

abbrev pub next_clock : ℕ → Clock → Bool → Clock
next_clock T c came = started_anew T (counted (read_on T c) came)

pub record Completes (T : ℕ) (c : Clock) (came : Bool) : Type 0 where
  pub possible : PossibleClock T c
  pub words : came ≡ true
  pub last : c.a + 1 ≡ T
