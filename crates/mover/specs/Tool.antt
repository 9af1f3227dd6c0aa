-- What the mover promises (01, 'When a tool says no': it takes n and no k). A list with a prime is what a lent buffer holds afterwards.
--   mover_lengths n frame out        the lengths lent to it beside the columns
--   mover_table e n C frame out      when it is refused: 1 to 4
--   Moves e n C frame out out' r    done, it leaves the frame in order; refused, out as it came
use Rattle.std.specs.Prelude.{ℕ, ◌^◌, ◌≡◌, List, [], ◌∷◌, length, Result}
use Rattle.kinds.specs.declared.Refusal.{Refusal}
use Rattle.kinds.specs.Edition.{Edition, SizedN}
use Rattle.kinds.specs.Decisions.{sized_n?}
use Rattle.kinds.specs.First.{Reason}
use Rattle.kinds.specs.Lengths.{Wanted, exactly}
use Rattle.kinds.specs.Refusal.{said}
use Rattle.kinds.specs.Answers.{Answers}
use Rattle.order.specs.Order.{Moved}
use Rattle.order.specs.Table.{order_table}

abbrev pub mover_lengths : ℕ → List ℕ → List ℕ → List (ℕ × Wanted)
mover_lengths n frame out = (length frame, exactly (2 ^ n)) ∷ (length out, exactly (2 ^ n)) ∷ []

abbrev pub mover_table : Edition → ℕ → List ℕ → List ℕ → List ℕ → List Reason
mover_table e n C frame out = order_table (SizedN e n) (sized_n? e n) n C (mover_lengths n frame out)

abbrev pub Moves : Edition → ℕ → List ℕ → List ℕ → List ℕ → List ℕ → Result Unit Refusal → Type 0
Moves e n C frame out out' r = Answers (mover_table e n C frame out) (said r) (Moved n C frame out') (out' ≡ out)
