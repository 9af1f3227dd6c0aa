-- The first ticks of the frame have been taken in, each by a call of its own, and the others are left to cut off.
use Rattle.std.proofs.Common.{ℕ, ◌*◌, ◌^◌, ◌≤◌, ◌≡◌, List, length, drop}
use Rattle.std.specs.Slice.Iter.{chunks_rest, chunks_size}
use Rattle.std.specs.declared.slice.Chunks.{Chunks}
use Rattle.kinds.specs.Frame.{ticks, in_order}
use Rattle.state.specs.declared.State.{State}
use Rattle.trial.specs.Inside.{Here, Runnable}
use Rattle.trial.proofs.take_in.Given as goal

pub record Taking (n k : ℕ) (s f out ws ms : List ℕ) (st : State) (it : Chunks ℕ) : Type 0 where
  pub run : Runnable n k s
  pub words : f ≡ in_order (2 ^ n) (λ i. i)
  pub room : length out ≡ 2 ^ k
  pub calls : ℕ
  pub early : calls ≤ ticks n k
  pub here : Here n k s calls st ws ms
  pub size : chunks_size it ≡ 2 ^ k
  pub left : chunks_rest it ≡ drop (calls * 2 ^ k) f

abbrev pub invariant-loop-came : goal.invariant-loop-came
invariant-loop-came l = Taking l.sizes.n l.sizes.k l.sheet l.frame l.out l.words l.marks l.state l.came-iterator
