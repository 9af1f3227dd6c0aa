-- A line of text: a name and numbers (01, 'The order card', of the listing).
--   spaced ns         the numbers ns, each with a space before it
--   line_end ns        what comes after the name of a line with the numbers ns
--   line name ns      a line: its name, and the numbers ns
use Prim.Native.Char.{code}
use Rattle.std.specs.Prelude.{ℕ, List, [], ◌∷◌, ◌++◌}
use Rattle.text.specs.Decimal.{decimal}

unfoldable pub spaced : List ℕ → List ℕ
spaced [] = []
spaced (x ∷ xs) = code " " ∷ decimal x ++ spaced xs

abbrev pub line_end : List ℕ → List ℕ
line_end ns = spaced ns ++ (code "\n" ∷ [])

abbrev pub line : List ℕ → List ℕ → List ℕ
line name ns = name ++ line_end ns
