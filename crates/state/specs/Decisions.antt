-- Decisions of what this crate's meanings state. Each carries its proof, so none has to be read.
--   possible_clock? T c      whether the clock c is possible
--   possible? T st          whether the state st is
use Rattle.std.specs.Prelude.{ℕ}
use Rattle.std.proofs.Math.Decide.{dec_lt, dec_le}
use Rattle.kinds.specs.Decided.{both, through}
use Rattle.state.specs.Clocks.{PossibleClock}
use Rattle.state.specs.States.{clock_of, Possible}
use Rattle.state.specs.declared.Clock.{Clock}
use Rattle.state.specs.declared.State.{State}

unfoldable pub possible_clock? : (T : ℕ) (c : Clock) → Dec (PossibleClock T c)
unfolding dec_lt dec_le
possible_clock? T c =
    through (λ (i, (b, r)). record { incoming = i; behind = b; reader = r }, λ p. (p.incoming, (p.behind, p.reader)))
    (both (dec_lt c.a T) (both (dec_le c.a c.r) (dec_le c.r T)))

unfoldable pub possible? : (T : ℕ) (st : State) → Dec (Possible T st)
unfolding dec_lt
possible? T st =
    through (λ (c, h). record { clock = c; half = h }, λ p. (p.clock, p.half)) (both (possible_clock? T (clock_of st)) (dec_lt st.h 2))
