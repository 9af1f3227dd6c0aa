-- Which numbers of a scan were kept, told from its masks.
--   kept_in ms i              whether number i of a scan was kept, told from the masks ms: its mask is 2^i or more exactly then
--   FirstUnkept ms r         r names the first number that was not kept, told from the masks ms, and its mask, if there is one. A place after the masks that holds 0 counts as a
--                            number that was not kept
--   kept_numbers ms a b kept  of the positions from a to b - 1, those that were kept, or, if kept is false, those that were not; counted from a
use Rattle.std.specs.Prelude.{ℕ, ◌+◌, ◌-◌, ◌^◌, ◌<◌, ◌≡◌, Bool, true, false, List, leb, length, get_or, Option, Some, None}
use Rattle.std.proofs.Math.Bool.{Bool-discrete}
use Rattle.kinds.specs.Search.{those}
use Rattle.rows.specs.declared.Summed.{Summed}

abbrev pub kept_in : List ℕ → ℕ → Bool
kept_in ms i = leb (2 ^ i) (get_or ms i 0)

pub record FirstUnkept (ms : List ℕ) (r : Option Summed) : Type 0 where
  pub first : (j : ℕ) → j < length ms → kept_in ms j ≡ false → ((i : ℕ) → i < j → kept_in ms i ≡ true) → r ≡ Some (record { at = j; mask = get_or ms j 0 })
  pub all_kept : ((j : ℕ) → j < length ms → kept_in ms j ≡ true) → r ≡ None

unfoldable pub kept_numbers : List ℕ → ℕ → ℕ → Bool → List ℕ
unfolding those
kept_numbers ms a b kept = those (λ j. Bool-discrete (kept_in ms (a + j)) kept) (b - a)
