-- Where k is 6 at most, a number of 64 bits has a bit for each bank.
use Rattle.std.proofs.Common.{arith, pow_mono}
use Rattle.faults.proofs.first_pair.Goals as goal

pub banks_differ-requires : goal.banks_differ-requires
banks_differ-requires c = omega (arith, pow_mono {i = c.args.k} {j = 6} c.if-k-le-SMALL.true)
