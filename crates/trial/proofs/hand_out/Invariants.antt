-- The first c ticks of the frame have been handed out, each by a blank call of its own.
use Rattle.std.proofs.Common.{ℕ, ◌+◌, ◌*◌, ◌^◌, ◌<◌, ◌≡◌, List, length, get_or}
use Rattle.kinds.specs.Frame.{ticks, tick_of, port_of}
use Rattle.state.specs.declared.State.{State}
use Rattle.trial.specs.Inside.{leaves_in, Here, Runnable}
use Rattle.trial.proofs.hand_out.Given as goal

-- what is handed out at place q
abbrev pub word_left : ℕ → ℕ → List ℕ → ℕ → ℕ
word_left n k s q = get_or (leaves_in n k s (ticks n k + tick_of k q)) (port_of k q) 0

pub record Handing (n k : ℕ) (s f ws ms : List ℕ) (st : State) (c : ℕ) : Type 0 where
  pub run : Runnable n k s
  pub room : length f ≡ 2 ^ n
  pub here : Here n k s (ticks n k + c) st ws ms
  pub each : (q : ℕ) → q < c * 2 ^ k → get_or f q 0 ≡ word_left n k s q

abbrev pub invariant-loop-c : goal.invariant-loop-c
invariant-loop-c l = Handing l.sizes.n l.sizes.k l.sheet l.frame l.words l.marks l.state l.c
