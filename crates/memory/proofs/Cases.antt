-- A call that writes the cell that it reads: 12 on the marks as they came, and served where 12 is judged after the read. A cell beyond the memory is empty.
use mathlib.Core.Path.{◌≡◌, refl}
use mathlib.Core.Bool.{Bool, true, false}
use mathlib.Core.List.{[], ◌∷◌, map}
use native.Mathlib.Decide.{ℕ_discrete, dec_le, dec_lt}
use Rattle.kinds.specs.First.{first_of}
use Rattle.kinds.specs.Refusal.{given}
use Rattle.kinds.specs.Decided.{some_below}
use Rattle.faults.specs.Marks.{put}
use Rattle.faults.specs.Decisions.{countable?}
use Rattle.memory.specs.Memory.{Memory, Access, served}
use Rattle.memory.specs.Serving.{serve_table}
use Rattle.memory.specs.Decisions.{fitting?}

computed : Unit {0}
unfolding first_of fitting? countable? dec_le dec_lt ℕ_discrete some_below put
computed = tt

abbrev two : Memory
two = record { words = 5 ∷ 6 ∷ []; marks = 0 ∷ 1 ∷ [] }

abbrev refilled : Access
refilled = record { writes = 1 ∷ []; words = 7 ∷ []; reads = 1 ∷ [] }

judged : map (λ (after : Bool). given (first_of (serve_table after 1 refilled two (0 ∷ 0 ∷ [])))) (false ∷ true ∷ []) ≡ 12 ∷ 0 ∷ []
unfolding computed
judged = refl

refills : served refilled two ≡ record { words = 5 ∷ 7 ∷ []; marks = 0 ∷ 1 ∷ [] }
unfolding computed
refills = refl

beyond : given (first_of (serve_table false 1 (record { writes = []; words = []; reads = 2 ∷ [] }) two (0 ∷ 0 ∷ []))) ≡ 14
unfolding computed
beyond = refl
