-- The first p places are those of the first p cells that were listed.
use Rattle.std.proofs.Common.{ℕ, ◌≡◌, ◌+◌, ◌<◌, List, length, get_or}
use Rattle.call.proofs.places_of.Given as goal

pub record Placing (base : ℕ) (places₀ listed places : List ℕ) (p : ℕ) : Type 0 where
  pub all : length listed ≡ length places₀
  pub same : length places ≡ length places₀
  pub each : (q : ℕ) → q < p → get_or places q 0 ≡ base + get_or listed q 0

abbrev pub invariant-loop-p : goal.invariant-loop-p
invariant-loop-p l = Placing l.base l.fn.places l.cell-items l.places l.p
