-- Sums of a list of numbers; a sum is an exclusive or.
--   SumOf C v          v is a sum of C: a mask selects members of C whose sum is v (the empty sum is 0)
--   Independent C      only the mask 0 selects a sum of 0
use Rattle.std.specs.Prelude.{ℕ, ◌^◌, ◌<◌, ◌≡◌, List, length}
use Rattle.bits.specs.Image.{image}

pub record SumOf (cs : List ℕ) (v : ℕ) : Type 0 where
  pub selected : ℕ
  pub below : selected < 2 ^ length cs
  pub sum : image cs selected ≡ v

abbrev pub Independent : List ℕ → Type 0
Independent cs = (m : ℕ) → m < 2 ^ length cs → image cs m ≡ 0 → m ≡ 0
