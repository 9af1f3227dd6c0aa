-- The sum so far, and the image of the above under the columns to come, make the image of the whole.
use Rattle.std.proofs.Common.{◌≡◌, drop, bit_xor}
use Rattle.bits.specs.Image.{image}
use Rattle.bits.proofs.image.Given as goal

abbrev pub invariant-loop-column : goal.invariant-loop-column
invariant-loop-column l = image l.columns l.x ≡ bit_xor l.sum (image (drop l.column-index l.columns) l.above)
