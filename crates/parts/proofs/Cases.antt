-- The parts of the order 2 4 8 1 at n 4, by their rows, with k 2, where t is 2, and with k 1, where t is 3.
use Prim.Native.Nat.{ℕ}
use mathlib.Core.Path.{◌≡◌, refl}
use mathlib.Core.List.{List, [], ◌∷◌}
use Rattle.bits.specs.Image.{image, columns}
use Rattle.span.specs.Rows.{rows}
use Rattle.parts.specs.Parts.{rows_p1, rows_p2, rows_p3, rows_p4}

abbrev stride : List ℕ
stride = 2 ∷ 4 ∷ 8 ∷ 1 ∷ []

parts : (rows_p1 2 stride ≡ 0 ∷ 1 ∷ []) × (rows_p2 4 2 stride ≡ 2 ∷ 0 ∷ []) × (rows_p3 4 2 stride ≡ 2 ∷ 0 ∷ []) × (rows_p4 4 2 stride ≡ 0 ∷ 1 ∷ [])
unfolding image columns rows
parts = (refl, refl, refl, refl)

narrow_parts : (rows_p1 1 stride ≡ 0 ∷ []) × (rows_p2 4 1 stride ≡ 4 ∷ []) × (rows_p3 4 1 stride ≡ 1 ∷ 0 ∷ 0 ∷ []) × (rows_p4 4 1 stride ≡ 0 ∷ 1 ∷ 2 ∷ [])
unfolding image columns rows
narrow_parts = (refl, refl, refl, refl)
