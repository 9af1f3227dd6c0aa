-- What was counted, and the parity of the rest, make the parity of the whole.
use Rattle.std.proofs.Common.{ℕ, ◌≡◌, ◌+◌, ◌%◌, ◌<◌}
use Rattle.bits.specs.Parity.{parity}
use Rattle.bits.proofs.parity.Given as goal

pub record Counted (x odd rest : ℕ) : Type 0 where
  pub low : odd < 2
  pub whole : parity x ≡ (odd + parity rest) % 2

abbrev pub invariant-loop-rest : goal.invariant-loop-rest
invariant-loop-rest l = Counted l.x l.odd l.rest

abbrev pub decreases-loop-rest : goal.decreases-loop-rest
decreases-loop-rest l = l.rest
