-- No length of 64 bits is 2^65 or more.
use Rattle.std.proofs.Common.{◌+◌, arith, leb-true, pow_mono}
use Rattle.lent.proofs.of_memory.Goals as goal

pub returns-else-n-le63 : goal.returns-else-n-le63
returns-else-n-le63 c = (λ e. absurd (omega (arith, leb-true)), λ e. absurd (omega (arith, e, pow_mono {i = 64} {j = c.args.n + 1} (omega arith), c.ranges.length)))
