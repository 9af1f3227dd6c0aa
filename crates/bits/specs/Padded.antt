-- Lists that are handed on in arrays, which have more places than numbers.
--   padded_to m l    the numbers of l, and zeros after them, m in all
--   array_width      16, the places of an array of columns, of rows, of masks, or of the numbers of stages
--   padded l        the numbers of l, and zeros after them, in such an array
use Rattle.std.specs.Prelude.{ℕ, ◌-◌, List, ◌++◌, length, replicate}

abbrev pub padded_to : ℕ → List ℕ → List ℕ
padded_to m l = l ++ replicate (m - length l) 0

abbrev pub array_width : ℕ
array_width = 16

abbrev pub padded : List ℕ → List ℕ
padded l = padded_to array_width l
