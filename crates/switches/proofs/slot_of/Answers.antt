-- Where 2^k is no 32-bit number, it is above every place.
use Rattle.std.proofs.Common.{ℕ, ◌≡◌, ◌^◌, ◌<◌, sym, pow_mono, pow_pos, mod-eq_of_lt, arith}
use native.Mathlib.Decide.{dec_lt}
use native.Mathlib.Nat.{div-eq_of_lt}
use Rattle.bits.specs.Word.{TwoTo}
use Rattle.switches.proofs.slot_of.Goals as goal

beyond : {k r : ℕ} → TwoTo k r → r ≡ 0 → (i : ℕ) → i < 2 ^ 32 → i < 2 ^ k
beyond {k} two_to none i h = elim (dec_lt k 32) [
  | yes small ↦ absurd (omega (arith, two_to.fits small, pow_pos k))
  | no large ↦ omega (arith, pow_mono {i = 32} {j = k} (omega arith))
]

pub returns-then-ports-eq0-clause-tick_value : goal.returns-then-ports-eq0-clause-tick_value
returns-then-ports-eq0-clause-tick_value c = sym (div-eq_of_lt (beyond c.two_to-ports.ensures c.if-ports-eq0.true c.args.i (omega (arith, c.ranges.i))))

pub returns-then-ports-eq0-clause-port_value : goal.returns-then-ports-eq0-clause-port_value
returns-then-ports-eq0-clause-port_value c = sym (mod-eq_of_lt (beyond c.two_to-ports.ensures c.if-ports-eq0.true c.args.i (omega (arith, c.ranges.i))))
