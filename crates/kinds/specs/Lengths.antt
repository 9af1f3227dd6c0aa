-- What the length of a lent buffer should be.
--   Wanted             what is wanted of a length: exactly so many places, at least so many, or so many or none
--   IsLength l w       the length l is as wanted
--   RightLengths l     each lent length of l is as wanted beside it
use Rattle.std.specs.Prelude.{ℕ, ◌≤◌, ◌≡◌, List, [], ◌∷◌, ◌⊎◌}

pub data Wanted : Type 0 where
  exactly : ℕ → Wanted
  at_least : ℕ → Wanted
  or_none : ℕ → Wanted

abbrev pub IsLength : ℕ → Wanted → Type 0
IsLength l (exactly m) = l ≡ m
IsLength l (at_least m) = m ≤ l
IsLength l (or_none m) = (l ≡ m) ⊎ (l ≡ 0)

abbrev pub RightLengths : List (ℕ × Wanted) → Type 0
RightLengths [] = Unit
RightLengths ((lent, wanted) ∷ rest) = IsLength lent wanted × RightLengths rest
