-- The listing of an order, written into a text.
--   text_places                  the places that a text must have at least: enough for every listing
--   Listable n k C x            the sizes are those of 01, C is an order, and the text x has so many places
--   ListsOrder n k C x x' r     where that is so, the listing stands from the first place of x' on, the rest of x' is as it came, and r is its length; where it is not, x' is x, and there is no r
use Rattle.std.specs.Prelude.{ℕ, ◌≤◌, ◌≡◌, List, length, Option, Some, None}
use Rattle.kinds.specs.Edition.{edition1, Sized}
use Rattle.order.specs.Order.{Order}
use Rattle.lines.specs.Written.{Writes}
use Rattle.listed.specs.Listing.{listing}

abbrev pub text_places : ℕ
text_places = 8192

pub record Listable (n k : ℕ) (C x : List ℕ) : Type 0 where
  pub sized : Sized edition1 n k
  pub order : Order n C
  pub places : text_places ≤ length x

pub record ListsOrder (n k : ℕ) (C x x' : List ℕ) (r : Option ℕ) : Type 0 where
  pub written : Listable n k C x → (length_of : ℕ) × (r ≡ Some length_of) × Writes (listing n k C) 0 x x' length_of
  pub left : ¬ Listable n k C x → (x' ≡ x) × (r ≡ None)
