-- From a number to the next.
--   ones_more       j ones in a row and 2^j together are j + 1 ones
--   trailing_lt     a number of m bits that is not 0 has fewer than m trailing zeros
--   next_xor        a number and the next differ in the next one's trailing zeros and the bit above them
use Prim.Native.Nat.{ℕ, zero, suc, ◌+◌, ◌-◌, ◌/◌, ◌^◌, ◌≤◌, ◌<◌}
use mathlib.Core.Path.{◌≡◌, ap, ◌∙◌}
use mathlib.Core.Logic.{⊎_elim}
use native.Mathlib.Omega.{arith}
use native.Mathlib.Nat.{pow-suc}
use lib.Bits.{bit_xor, xor_self}
use lib.Count.{count_trailing_zeros}
use lib.Pow.{pow-add, pow_pos, ones_lt}
use Rattle.bits.proofs.XorLaws.{even_or_odd, xor_half, xor_low, xor_above}

pub ones_more : (j : ℕ) → bit_xor (2 ^ j - 1) (2 ^ j) ≡ 2 ^ (j + 1) - 1
ones_more j = xor_above j (2 ^ j - 1) (ones_lt j) ∙ omega (arith, pow-add 2 j 1, pow_pos j)

pub trailing_lt : (w m x : ℕ) → 0 < x → x < 2 ^ m → m ≤ w → count_trailing_zeros w x < m
unfolding count_trailing_zeros
trailing_lt w zero x p h l = absurd (omega arith)
trailing_lt zero (suc m) x p h l = absurd (omega arith)
trailing_lt (suc w) (suc m) x p h l = ⊎_elim
    (λ even. rw even (omega (arith, trailing_lt w m (x / 2) (omega arith) (omega (arith, pow-suc 2 m)) (omega arith))))
    (λ odd. rw odd (omega arith))
    (even_or_odd x)

pub next_xor : (w i : ℕ) → i + 1 < 2 ^ w → bit_xor i (i + 1) ≡ 2 ^ (count_trailing_zeros w (i + 1) + 1) - 1
unfolding count_trailing_zeros
next_xor zero i h = absurd (omega arith)
next_xor (suc w) i h = ⊎_elim
    (λ even.
    let half : (i + 1) / 2 ≡ i / 2 + 1 = omega arith in
    let t = count_trailing_zeros w (i / 2 + 1) in
    let above = xor_half i (i + 1) ∙ ap (bit_xor (i / 2)) half ∙ next_xor w (i / 2) (omega (arith, pow-suc 2 w)) in
    rw even (rw half (omega (arith, above, xor_low i (i + 1), pow-add 2 (suc t) 1, pow-add 2 t 1, pow-suc 2 t, pow_pos t))))
    (λ odd.
    let half : (i + 1) / 2 ≡ i / 2 = omega arith in
    rw odd (omega (arith, xor_half i (i + 1) ∙ ap (bit_xor (i / 2)) half ∙ xor_self (i / 2), xor_low i (i + 1))))
    (even_or_odd (i + 1))
