-- A caller who makes the calls of a series S with `run::tick`, one after the other, and hands state and memory on. b j is what is lent to call j, and l j what it leaves.
--   Made e n k s S b l      call j brings the words of call j of S, and is answered by the run of the sheet s; the next one is lent the state and the memory that it left; b (length S) is what stands after the last
--   start_of b               where the caller starts
--   seen_by l                what is seen of a call that leaves l: the refusal; whether a tick was handed out; and, if one was, its words, which stand in the out buffer
use Rattle.std.specs.Prelude.{ℕ, suc, ◌<◌, ◌≡◌, cond, List, [], length}
use Rattle.kinds.specs.Edition.{Edition}
use Rattle.kinds.specs.Refusal.{said}
use Rattle.lent.specs.Lent.{Lent}
use Rattle.call.specs.Tool.{After, state_after, handed_out}
use Rattle.run.specs.Tool.{Runs}
use Rattle.promise.specs.Series.{call_at}
use Rattle.promise.specs.Seen.{Seen}
use Rattle.promise.specs.Run.{Stand}

pub record Made (e : Edition) (n k : ℕ) (s : List ℕ) (S : List (List ℕ)) (b : ℕ → Lent) (l : ℕ → After) : Type 0 where
  pub brings : (j : ℕ) → j < length S → (b j).came ≡ call_at S j
  pub answered : (j : ℕ) → j < length S → Runs e n k s (b j) (l j)
  pub state_on : (j : ℕ) → j < length S → (b (suc j)).state ≡ state_after (b j).state (l j).answer
  pub memory_on : (j : ℕ) → j < length S → (b (suc j)).memory ≡ (l j).memory

abbrev pub start_of : (ℕ → Lent) → Stand
start_of b = record { state = (b 0).state; memory = (b 0).memory }

abbrev pub seen_by : After → Seen
seen_by l = record { refusal = said l.answer; handed = handed_out l.answer; leaving = cond (handed_out l.answer) l.out [] }
