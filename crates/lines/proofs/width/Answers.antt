use Rattle.std.proofs.Common.{length, ap, arith}
use Rattle.text.proofs.DecimalLaws.{decimal_small, decimal_longer, decimal_length}
use Rattle.lines.proofs.width.Goals as goal

pub loop-rest-init : goal.loop-rest-init
loop-rest-init c = record { few = decimal_length 10 c.args.number (omega arith) (omega arith); same = omega arith }

pub loop-rest-preserved : goal.loop-rest-preserved
loop-rest-preserved c =
    record { few = c.loop-rest.invariant.few; same = omega (arith, decimal_longer c.loop-rest.rest c.loop-rest-test.true) }

pub returns : goal.returns
returns c = omega (arith, ap length (decimal_small c.loop-rest.rest (omega arith)))
