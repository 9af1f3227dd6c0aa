-- What the functions inside the crate promise one another.
--   Further b at            two numbers have been read of b, up to place at
--   ReadsColumns b at r     the numbers from place at of b to its end, if these bytes are a row of numbers; else 15
use Rattle.std.specs.Prelude.{ℕ, ◌≤◌, ◌≡◌, Result, IfOk, List, length, drop}
use Rattle.std.proofs.Math.Option.{some}
use Rattle.few.specs.Few.{Items}
use Rattle.kinds.specs.Refusal.{said}
use Rattle.kinds.specs.declared.Refusal.{Refusal}
use Rattle.kinds.specs.declared.Refusal.TheVariants.{Card}
use Rattle.text.specs.Numbers.{IsRow}
use Rattle.card.specs.Card.{longest}

pub record Further (b : List ℕ) (at : ℕ) : Type 0 where
  pub short : length b ≤ longest
  pub two : 4 ≤ at
  pub within : at ≤ length b

pub record ReadsColumns (b : List ℕ) (at : ℕ) (r : Result (Items ℕ) Refusal) : Type 0 where
  pub read : IfOk r (λ columns. IsRow (drop at b) columns.items)
  pub unread : (x : Refusal) → said r ≡ some x → (x ≡ Card) × ((C : List ℕ) → ¬ IsRow (drop at b) C)
