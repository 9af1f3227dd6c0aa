-- Outer: no pair is found, and no port passed has a later one that wants its bank.
-- Inner: nor does a port before q want the bank of port p.
use Rattle.std.proofs.Common.{ℕ, ◌≡◌, ◌<◌, List, Option, None}
use Rattle.kinds.specs.declared.Port.{Port}
use Rattle.faults.specs.Faults.{WantOneBank, LaterWants}
use Rattle.faults.proofs.find_pair.Given as goal

pub record Passed (k : ℕ) (cs : List ℕ) (pair : Option (Port × Port)) (p : ℕ) : Type 0 where
  pub nothing : pair ≡ None
  pub alone : (i : ℕ) → i < p → ¬ LaterWants k cs i

pub record Compared (k : ℕ) (cs : List ℕ) (pair : Option (Port × Port)) (p q : ℕ) : Type 0 where
  pub passed : Passed k cs pair p
  pub later : p < q
  pub apart : (j : ℕ) → j < q → ¬ WantOneBank k cs p j

abbrev pub invariant-loop-q : goal.invariant-loop-q
invariant-loop-q l = Compared l.k l.cells l.pair l.p l.q

abbrev pub invariant-ports : goal.invariant-ports
invariant-ports l = Passed l.k l.cells l.pair l.p
