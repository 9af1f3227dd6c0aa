-- The marks of a memory, one for each cell. A cell is named by its place in the memory; one beyond the memory is empty, and nothing is put there.
--   Filled l x           cell x is filled, where l is the marks: "a mark that isn't zero means filled" (01, 'One tick of the run')
--   put cs vs l          the list l after the first number of vs went to the first place of cs, the second to the second, and so on
--   with_marks v cs l     the list l after v went to each place of cs
use Rattle.std.specs.Prelude.{ℕ, List, [], ◌∷◌, ◌≢◌, length, get_or, set, replicate}

abbrev pub Filled : List ℕ → ℕ → Type 0
Filled l x = get_or l x 0 ≢ 0

unfoldable pub put : List ℕ → List ℕ → List ℕ → List ℕ
put [] vs l = l
put (x ∷ xs) [] l = l
put (x ∷ xs) (v ∷ vs) l = put xs vs (set l x v)

abbrev pub with_marks : ℕ → List ℕ → List ℕ → List ℕ
with_marks v cs l = put cs (replicate (length cs) v) l
