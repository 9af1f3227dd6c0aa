-- What the inverse promises. A list with a prime is what a lent buffer holds afterwards.
--   Inverts e n C out out' r        done, it leaves the columns that undo C; refused, out as it came
use Rattle.std.specs.Prelude.{ℕ, ◌≡◌, List, Result}
use Rattle.kinds.specs.declared.Refusal.{Refusal}
use Rattle.kinds.specs.Edition.{Edition}
use Rattle.kinds.specs.Refusal.{said}
use Rattle.kinds.specs.Answers.{Answers}
use Rattle.order.specs.Order.{Undoes}
use Rattle.order.specs.Table.{inverse_table}

abbrev pub Inverts : Edition → ℕ → List ℕ → List ℕ → List ℕ → Result Unit Refusal → Type 0
Inverts e n C out out' r = Answers (inverse_table e n C out) (said r) (Undoes n C out') (out' ≡ out)
