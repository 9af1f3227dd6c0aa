-- Ten places are enough for any number.
use Rattle.std.proofs.Common.{refl, arith}
use Rattle.text.proofs.DecimalLaws.{decimal_length}
use Rattle.lines.proofs.number_fits.Goals as goal

pub returns-then-has_room : goal.returns-then-has_room
returns-then-has_room c = (λ _. omega (arith, decimal_length 10 c.args.number (omega arith) (omega arith), c.if-has_room.ensures.0 refl), λ _. c.if-has_room.true)
