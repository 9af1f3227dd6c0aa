-- The addresses of the places before stand.
use Rattle.std.proofs.Common.{◌≡◌, map, take}
use Rattle.kinds.specs.Frame.{tick_of}
use Rattle.plan.proofs.chosen.Chosen.addresses.Given as goal

abbrev pub invariant-loop-place : goal.invariant-loop-place
invariant-loop-place l = l.addresses.items ≡ map (tick_of l.fn.self.sizes.k) (take l.place-index l.fn.self.columns.now)
