-- For whatever order the scan holds, each column so far is the word that leaves at its unit.
use Rattle.std.proofs.Common.{ℕ, ◌^◌, ◌<◌, List, length, get_or}
use Rattle.span.specs.Held.{Holds}
use Rattle.span.specs.declared.Scan.{Scan}
use Rattle.order.specs.Order.{Order}
use Rattle.order.specs.Inside.{Few}
use Rattle.order.proofs.OrderLaws.{LeavesAt}
use Rattle.order.proofs.write_inverse.Given as goal

abbrev pub Column : List ℕ → List ℕ → List ℕ → ℕ → Type 0
Column out₀ out C b = LeavesAt (length out₀) C (2 ^ b) (get_or out b 0)

pub record Writing (scan : Scan) (out₀ out : List ℕ) (b : ℕ) : Type 0 where
  pub few : Few out₀
  pub columns : (C : List ℕ) → Holds scan C → Order (length out₀) C → (l : ℕ) → l < b → Column out₀ out C l

abbrev pub invariant-loop-b : goal.invariant-loop-b
invariant-loop-b l = Writing l.scan l.fn.out l.out l.b
