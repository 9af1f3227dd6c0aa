-- What a call is lent, and when it is refused before its cells are looked at (01, 'When a tool says no': 1, 2 and 10).
--   Lent                   what a call is lent: the state, the words that came, the memory and the out buffer
--   lengths_of b            those of what is lent
--   run_lengths n k l       the lengths l, and what is wanted of each: "tick 2^k or 0, tick out 2^k, words and marks 2^(n+1)"
--   call_table e n k st l   1, 2 and 10, where the state st is lent and the lengths are l
use Rattle.std.specs.Prelude.{ℕ, ◌+◌, ◌^◌, List, [], ◌∷◌, length}
use Rattle.kinds.specs.Edition.{Edition, Sized}
use Rattle.kinds.specs.Decisions.{sized?}
use Rattle.kinds.specs.Frame.{ticks}
use Rattle.kinds.specs.First.{Reason}
use Rattle.kinds.specs.Reasons.{outside, wrong_length}
use Rattle.kinds.specs.Lengths.{Wanted, exactly, or_none}
use Rattle.state.specs.Table.{impossible}
use Rattle.state.specs.declared.State.{State}
use Rattle.memory.specs.Memory.{Memory}
use Rattle.lent.specs.declared.Lengths.{Lengths}

pub record Lent : Type 0 where
  pub state : State
  pub came : List ℕ
  pub memory : Memory
  pub out : List ℕ

abbrev pub lengths_of : Lent → Lengths
lengths_of b = record { came = length b.came; out = length b.out; words = length b.memory.words; marks = length b.memory.marks }

abbrev pub run_lengths : ℕ → ℕ → Lengths → List (ℕ × Wanted)
run_lengths n k l = (l.came, or_none (2 ^ k)) ∷ (l.out, exactly (2 ^ k)) ∷ (l.words, exactly (2 ^ (n + 1))) ∷ (l.marks, exactly (2 ^ (n + 1))) ∷ []

abbrev pub call_table : Edition → ℕ → ℕ → State → Lengths → List Reason
call_table e n k st l = outside (Sized e n k) (sized? e n k) ∷ wrong_length (run_lengths n k l) ∷ impossible (ticks n k) st ∷ []
