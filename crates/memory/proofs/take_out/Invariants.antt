-- `out` begins with the words of the first p cells and is else as it came, and p marks are cleared.
use Rattle.std.proofs.Common.{ℕ, ◌≡◌, ◌≤◌, List, ◌++◌, length, take, drop}
use Rattle.memory.specs.Memory.{words_at}
use Rattle.memory.proofs.MemoryLaws.{Marking}
use Rattle.memory.proofs.take_out.Given as goal

pub record Taking (cells out₀ words marks₀ out marks : List ℕ) (p : ℕ) : Type 0 where
  pub room : length cells ≤ length out₀
  pub same : length out ≡ length out₀
  pub front : out ≡ take p (words_at cells words) ++ drop p out₀
  pub clears : Marking 0 cells marks₀ marks p

abbrev pub invariant-loop-p : goal.invariant-loop-p
invariant-loop-p l = Taking l.cells l.initial.out l.words l.initial.marks l.out l.marks l.p
