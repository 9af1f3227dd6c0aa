-- The first m numbers of a list, lent as `&mut l[0..m]`.
--   part_length      there are m
--   part_back        where they came back as r, `&l[0..m]` is r
use Prim.Native.Nat.{ℕ, ◌-◌, ◌≤◌}
use mathlib.Core.Path.{◌≡◌}
use mathlib.Core.List.{List, ◌++◌}
use native.Mathlib.Nat.{sub-zero}
use lib.ListN.{length, take, drop}
use lib.Seq.{length-take-le, take_at}

pub part_length : (m : ℕ) (l : List ℕ) → m ≤ length l → length (take (m - 0) l) ≡ m
part_length m l h = rw (sub-zero m) (length-take-le m l h)

pub part_back : (m : ℕ) (l r : List ℕ) → length r ≡ m → take (m - 0) (r ++ drop (m - 0) l) ≡ r
part_back m l r e = rw (sub-zero m) (take_at r (drop m l) m e)
