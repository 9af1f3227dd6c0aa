-- A map by its rows (01: "row r of a part is bit r of its result").
--   dots R x        the number whose bit l says whether row l of R AND x has an odd number of ones: what the rows R make of x
--   row C i         row i of the map with columns C: bit j of it is bit i of column j
--   rows m C        the first m rows of that map
--   taken_on Z R     the rows R, taken only on the numbers Z: bit l of each is 1 if that row AND number l of Z has an odd number of ones
use Rattle.std.specs.Prelude.{ℕ, ◌+◌, ◌*◌, List, [], ◌∷◌, map}
use Rattle.kinds.specs.Frame.{in_order}
use Rattle.bits.specs.Parity.{bit, dot}

unfoldable pub dots : List ℕ → ℕ → ℕ
dots [] x = 0
dots (r ∷ rs) x = dot r x + 2 * dots rs x

unfoldable pub row : List ℕ → ℕ → ℕ
row [] i = 0
row (c ∷ cs) i = bit i c + 2 * row cs i

unfoldable pub rows : ℕ → List ℕ → List ℕ
unfolding in_order row
rows m cs = in_order m (row cs)

abbrev pub taken_on : List ℕ → List ℕ → List ℕ
taken_on Z rs = map (dots Z) rs
