-- What an order is (01, 'Orders, ticks and ports').
--   place C i       P i: the place at which word i leaves under the order with the columns C
--   Order n C       C is an order of the 2^n words of a frame
--   ColumnTooLarge n C   a column of C is 2^n or more
--   Undoes n C D    D is n columns that bring each word home, whichever of C and D comes first
--   Moved n C f g   g is the frame f put in order: word i of f stands at place P i
use Rattle.std.specs.Prelude.{ℕ, ◌^◌, ◌<◌, ◌≤◌, ◌≡◌, List, length, get_or}
use Rattle.bits.specs.Image.{image, AllBelow}
use Rattle.span.specs.Sums.{Independent}

abbrev pub place : List ℕ → ℕ → ℕ
place = image

pub record Order (n : ℕ) (C : List ℕ) : Type 0 where
  pub count : length C ≡ n
  pub below : AllBelow (2 ^ n) C
  pub independent : Independent C

abbrev pub ColumnTooLarge : ℕ → List ℕ → Type 0
ColumnTooLarge n C = (j : ℕ) × (j < length C) × (2 ^ n ≤ get_or C j 0)

pub record Undoes (n : ℕ) (C D : List ℕ) : Type 0 where
  pub count : length D ≡ n
  pub home : (i : ℕ) → i < 2 ^ n → place D (place C i) ≡ i
  pub back : (i : ℕ) → i < 2 ^ n → place C (place D i) ≡ i

pub record Moved (n : ℕ) (C f g : List ℕ) : Type 0 where
  pub whole : length g ≡ 2 ^ n
  pub each : (i : ℕ) → i < 2 ^ n → get_or g (place C i) 0 ≡ get_or f i 0
