-- Bytes that are written into a text.
--   RoomFor w at x         there is room for w from place at of the text x on
--   Writes w at x x' r     w is written into the text x, from place at on, the rest is as it came, and r is the place after w
--   Puts w at x x' r       w is put there: where there is room it is written so; where there isn't, the whole text is as it came, and r is at
use Rattle.std.specs.Prelude.{ℕ, ◌+◌, ◌≤◌, ◌≡◌, List, length}
use Rattle.std.proofs.lemmas.List.Edits.{sets}

abbrev pub RoomFor : List ℕ → ℕ → List ℕ → Type 0
RoomFor w at x = at + length w ≤ length x

pub record Writes (w : List ℕ) (at : ℕ) (x x' : List ℕ) (r : ℕ) : Type 0 where
  pub next : r ≡ at + length w
  pub text : x' ≡ sets x at w

pub record Puts (w : List ℕ) (at : ℕ) (x x' : List ℕ) (r : ℕ) : Type 0 where
  pub written : RoomFor w at x → Writes w at x x' r
  pub refused : ¬ RoomFor w at x → (r ≡ at) × (x' ≡ x)
