-- The parts of a line.
--   ending_more       what comes after a line's name, from the i-th number on: a space, that number, and what comes after it
--   ending_done       from the last number on: the newline
--   spaced_length     numbers below 10^m take at most m + 1 bytes each, with the space before them
--   ending_length     no number of 32 bits takes more than 11 bytes
--   line_length       a line is its name, its numbers and the newline
use Prim.Native.Char.{code}
use Prim.Native.Nat.{ℕ, suc, ◌+◌, ◌*◌, ◌^◌, ◌≤◌, ◌<◌}
use mathlib.Core.Path.{◌≡◌, ap}
use mathlib.Core.List.{List, [], ◌∷◌, ◌++◌, append_assoc}
use native.Mathlib.Nat.{mul-suc}
use native.Mathlib.Numerals.{add-one}
use native.Mathlib.Omega.{arith}
use lib.ListN.{length, get_or, drop, length-append, drop_of_length-le}
use lib.Seq.{drop-cons}
use Rattle.text.specs.Decimal.{decimal}
use Rattle.text.proofs.DecimalLaws.{decimal_length}
use Rattle.lines.specs.Line.{spaced, line_end, line}

module _ (ns : List ℕ) (i : ℕ) where
  pub ending_more : i < length ns → line_end (drop i ns) ≡ code " " ∷ (decimal (get_or ns i 0) ++ line_end (drop (i + 1) ns))
  unfolding spaced
  ending_more h =
      rw (drop-cons ns i 0 h, spaced, add-one)
      (ap (λ (r : List ℕ). code " " ∷ r) (append_assoc (decimal (get_or ns i 0)) (spaced (drop (suc i) ns)) (code "\n" ∷ [])))

  pub ending_done : length ns ≤ i → line_end (drop i ns) ≡ code "\n" ∷ []
  unfolding spaced
  ending_done h = rw (drop_of_length-le ns {i = i} h)

pub spaced_length : (m : ℕ) (ns : List ℕ) → 1 ≤ m → ((j : ℕ) → j < length ns → get_or ns j 0 < 10 ^ m) → length (spaced ns) ≤ (m + 1) * length ns
unfolding spaced
spaced_length m [] some below = omega arith
spaced_length m (x ∷ xs) some below =
    let rest = spaced_length m xs some (λ j h. below (suc j) (omega arith)) in
    omega (arith, rest, length-append (decimal x) (spaced xs), decimal_length m x some (below 0 (omega arith)), mul-suc (m + 1) (length xs))

pub ending_length : (ns : List ℕ) → ((j : ℕ) → j < length ns → get_or ns j 0 < 2 ^ 32) → length (line_end ns) ≤ 11 * length ns + 1
ending_length ns below =
    omega (arith, length-append (spaced ns) (code "\n" ∷ []), spaced_length 10 ns (omega arith) (λ j h. omega (arith, below j h)))

pub line_length : (name ns : List ℕ) → length (line name ns) ≡ length name + length (spaced ns) + 1
line_length name ns = omega (arith, length-append name (spaced ns ++ (code "\n" ∷ [])), length-append (spaced ns) (code "\n" ∷ []))
