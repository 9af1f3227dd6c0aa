-- No length of 64 bits is 2^64 or more.
use Rattle.std.proofs.Common.{arith, ltb-true, pow_mono}
use Rattle.bits.proofs.is_two_to.Goals as goal

pub returns-else-k-lt-BITS : goal.returns-else-k-lt-BITS
returns-else-k-lt-BITS c = (
  λ e. absurd (omega (arith, ltb-true c.args.k 64 e)),
  λ e. absurd (omega (arith, e, pow_mono {i = 64} c.if-k-lt-BITS.false, c.ranges.length)),
)
