use Rattle.std.proofs.Common.{ℕ, ◌-◌, bit_and, sym, ap, ◌∙◌, arith, mod-eq_of_lt, pow_mono}
use lib.Bits.{and_mask}
use Rattle.faults.proofs.bank_bits.Goals as goal

pub returns-then-k-ge32 : goal.returns-then-k-ge32
returns-then-k-ge32 c x h =
    and_mask x 32 ∙ mod-eq_of_lt h ∙ sym (mod-eq_of_lt (omega (arith, h, pow_mono {i = 32} {j = c.args.k} c.if-k-ge32.true)))

pub returns : goal.returns
returns c x h = ap (λ (r : ℕ). bit_and x (r - 1)) (c.two_to.ensures.fits (omega arith)) ∙ and_mask x c.args.k
