-- 2^j cells are filled, and they are those of the tick that has the first.
use Rattle.std.proofs.Common.{ℕ, ◌≡◌, ◌-◌, ◌^◌, ◌<◌, List, length, get_or}
use Rattle.maps.specs.Opened.{IsCell}
use Rattle.maps.specs.declared.OpenSide.{OpenSide}
use Rattle.maps.proofs.OpenSide.cells.Given as goal

pub record Listing (o : OpenSide) (out₀ out : List ℕ) (filled j : ℕ) : Type 0 where
  pub whole : length out₀ ≡ 2 ^ o.k
  pub same : length out ≡ length out₀
  pub power : filled ≡ 2 ^ j
  pub each : (c : ℕ) → IsCell o c 0 (get_or out₀ 0 0) → (p : ℕ) → p < filled → IsCell o c p (get_or out p 0)

abbrev pub invariant-loop-filled : goal.invariant-loop-filled
invariant-loop-filled l = Listing l.self l.initial.out l.out l.filled l.j

abbrev pub decreases-loop-filled : goal.decreases-loop-filled
decreases-loop-filled l = length l.initial.out - l.filled
