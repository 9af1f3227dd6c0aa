-- What is written into three places. Where there are not three, they are as they came.
--   Becomes w l l'       three places l become w
--   Tells o l l' r       r is the number of the refusal o, or 0 where there is none, and three places l become what they are after it
use Rattle.std.specs.Prelude.{ℕ, ◌≡◌, List, length}
use Rattle.std.proofs.Math.Option.{Option}
use Rattle.kinds.specs.Refusal.{given}
use Rattle.kinds.specs.declared.Refusal.{Refusal}
use Rattle.told.specs.Told.{named}

pub record Becomes (w l l' : List ℕ) : Type 0 where
  pub three : length l ≡ 3 → l' ≡ w
  pub others : ¬ (length l ≡ 3) → l' ≡ l

pub record Tells (o : Option Refusal) (l l' : List ℕ) (r : ℕ) : Type 0 where
  pub number : r ≡ given o
  pub places : Becomes (named o l) l l'
