-- The bits of `seen` are the banks of the ports passed, of which no two want one bank.
use Rattle.std.proofs.Common.{ℕ, ◌≡◌, ◌<◌, List, get_or}
use Rattle.kinds.specs.Frame.{bank_of}
use Rattle.bits.specs.Parity.{bit}
use Rattle.faults.specs.Faults.{WantOneBank}
use Rattle.faults.proofs.banks_differ.Given as goal

abbrev pub bank_at : ℕ → List ℕ → ℕ → ℕ
bank_at k cs p = bank_of k (get_or cs p 0)

pub record Passed (k : ℕ) (cs : List ℕ) (seen p : ℕ) : Type 0 where
  pub bits : (i : ℕ) → i < p → bit (bank_at k cs i) seen ≡ 1
  pub ports : (b : ℕ) → bit b seen ≡ 1 → (i : ℕ) × (i < p) × (bank_at k cs i ≡ b)
  pub apart : (q : ℕ) → q < p → (i : ℕ) → ¬ WantOneBank k cs i q

abbrev pub invariant-loop-cell : goal.invariant-loop-cell
invariant-loop-cell l = Passed l.k l.cells l.seen l.cell-index
