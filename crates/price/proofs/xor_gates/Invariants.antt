-- The gates of the stages passed have been counted.
use Rattle.std.proofs.Common.{◌≡◌}
use Rattle.sheet.specs.Sheet.{stages_in}
use Rattle.price.specs.Price.{total, xor_gates_of}
use Rattle.price.proofs.xor_gates.Given as goal

abbrev pub invariant-loop-s : goal.invariant-loop-s
invariant-loop-s l = l.gates ≡ total xor_gates_of (stages_in l.s l.places)
