-- The frames of a small series, at n 2: "Blank ticks inside a frame only pause it".
--   the_frames     the words of two frames, and of one that has begun
use Prim.Native.Nat.{ℕ}
use mathlib.Core.Path.{◌≡◌, refl}
use mathlib.Core.List.{List, [], ◌∷◌, map, flatten}
use Rattle.kinds.specs.Frame.{in_order}
use Rattle.promise.specs.Series.{frame}

abbrev begun : List (List ℕ)
begun = [] ∷ (0 ∷ 1 ∷ []) ∷ [] ∷ (2 ∷ 3 ∷ []) ∷ (4 ∷ 5 ∷ []) ∷ (6 ∷ 7 ∷ []) ∷ [] ∷ (8 ∷ 9 ∷ []) ∷ []

the_frames : map (frame 2 begun) (0 ∷ 1 ∷ 2 ∷ []) ≡ (0 ∷ 1 ∷ 2 ∷ 3 ∷ []) ∷ (4 ∷ 5 ∷ 6 ∷ 7 ∷ []) ∷ (8 ∷ 9 ∷ 0 ∷ 0 ∷ []) ∷ []
unfolding in_order flatten
the_frames = refl
