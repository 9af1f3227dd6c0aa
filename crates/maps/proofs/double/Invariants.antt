-- p places from filled on are what they are to be, and no others have changed.
use Rattle.std.proofs.Common.{ℕ, ◌≡◌, ◌+◌, ◌*◌, ◌≤◌, ◌<◌, List, length, get_or, bit_xor}
use Rattle.maps.proofs.double.Given as goal

pub record Doubling (m v : ℕ) (l r : List ℕ) (p : ℕ) : Type 0 where
  pub same : length r ≡ length l
  pub low : (q : ℕ) → q < m → get_or r q 0 ≡ get_or l q 0
  pub high : (q : ℕ) → q < p → get_or r (m + q) 0 ≡ bit_xor (get_or l q 0) v
  pub rest : (q : ℕ) → 2 * m ≤ q → get_or r q 0 ≡ get_or l q 0

abbrev pub invariant-loop-p : goal.invariant-loop-p
invariant-loop-p l = Doubling l.filled l.column l.fn.cells l.cells l.p
