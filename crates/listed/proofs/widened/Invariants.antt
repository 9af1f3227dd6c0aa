-- The numbers up to the index-th stand in the vector.
use Rattle.std.proofs.Common.{◌≡◌, take}
use Rattle.listed.proofs.widened.Given as goal

abbrev pub invariant-loop-number : goal.invariant-loop-number
invariant-loop-number l = l.wide.items ≡ take l.number-index l.numbers
