use Rattle.std.proofs.Common.{ℕ, ◌^◌, ◌<◌, ◌≤◌, ◌↔◌, get_or, bit_or, arith, below_more, le-leb, pow_mono}
use lib.Bits.{or_lt, or_add_and, and_le_l, and_le_r}
use Rattle.bits.proofs.within_bits.Goals as goal

or_both : (m a b : ℕ) → bit_or a b < 2 ^ m ↔ ((a < 2 ^ m) × (b < 2 ^ m))
or_both m a b = (
  λ h. (omega (arith, or_add_and a b, and_le_r a b), omega (arith, or_add_and a b, and_le_l a b)),
  λ (h, k). or_lt m a b h k,
)

pub loop-number-preserved : goal.loop-number-preserved
loop-number-preserved c =
    let here = c.loop-number in
    let all = here.all in
    let i = here.number-index in
    let number = get_or c.args.numbers.now i 0 in
    let t = here.invariant in
    record {
      narrow = or_lt 16 all number t.narrow (omega (arith, c.type_inv.numbers i));
      same = λ m. (
        λ o. let (a, b) = (or_both m all number).0 o in below_more _ i ((t.same m).0 a) b,
        λ below. (or_both m all number).1 ((t.same m).1 (λ j k. below j (omega arith)), below i (omega arith)),
      );
    }

pub returns-then-m-ge16 : goal.returns-then-m-ge16
returns-then-m-ge16 c =
    let t = c.loop-number.invariant in
    let m = c.args.m in
    let wide : 16 ≤ m = omega arith in
    (λ e j k. (t.same m).0 (omega (arith, t.narrow, pow_mono {i = 16} {j = m} wide)) j (omega arith), λ below. le-leb 16 m wide)
