-- All numbers so far were kept, so that there are at most 16.
use Rattle.std.proofs.Common.{ℕ, ◌≤◌, ◌<◌, ◌≡◌, true, List}
use Rattle.bits.specs.Padded.{array_width}
use Rattle.rows.specs.Listed.{kept_in}
use Rattle.rows.proofs.first_sum.Given as goal

pub record AllKept (ms : List ℕ) (j : ℕ) : Type 0 where
  pub few : j ≤ array_width
  pub kept : (i : ℕ) → i < j → kept_in ms i ≡ true

abbrev pub invariant-loop-j : goal.invariant-loop-j
invariant-loop-j l = AllKept l.masks l.j
