-- The numbers of the first stages stand in the places.
use Rattle.std.proofs.Common.{◌≡◌, ◌*◌, length, take}
use Rattle.sheet.specs.Sheet.{flat}
use Rattle.lay.proofs.put_stages.Given as goal

abbrev pub invariant-loop-s : goal.invariant-loop-s
invariant-loop-s l = record {
  same : length l.places ≡ length l.fn.places;
  front : take (2 * l.s) l.places ≡ flat (take l.s l.stages);
}
