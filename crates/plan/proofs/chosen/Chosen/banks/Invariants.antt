-- The banks of the places before stand.
use Rattle.std.proofs.Common.{◌≡◌, map, take}
use Rattle.plan.specs.Inside.{bank_through}
use Rattle.plan.proofs.chosen.Chosen.banks.Given as goal

abbrev pub invariant-loop-place : goal.invariant-loop-place
invariant-loop-place l = l.banks.items ≡ map (bank_through l.fn.self.sizes.k l.fn.self.read.now.items) (take l.place-index l.fn.self.columns.now)
