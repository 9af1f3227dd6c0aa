-- p words went to their cells, and p marks.
use Rattle.std.proofs.Common.{ℕ, List}
use Rattle.memory.proofs.MemoryLaws.{Putting, Marking}
use Rattle.memory.proofs.store.Given as goal

pub record Storing (cells came words₀ marks₀ words marks : List ℕ) (p : ℕ) : Type 0 where
  pub stores : Putting cells came words₀ words p
  pub fills : Marking 1 cells marks₀ marks p

abbrev pub invariant-loop-p : goal.invariant-loop-p
invariant-loop-p l = Storing l.cells l.came l.initial.words l.initial.marks l.words l.marks l.p
