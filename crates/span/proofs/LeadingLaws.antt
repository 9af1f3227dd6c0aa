-- Leading zeros and exclusive or, for numbers of k bits.
--   leading_lt        a number that is not 0 has fewer than k leading zeros
--   leading_falls     two numbers with the same leading zeros: their exclusive or is smaller
--   leading_high      leading zeros are those of the upper bits, unless these are 0
--   leading_xor       the number with fewer leading zeros decides those of an exclusive or
use Prim.Native.Nat.{ℕ, zero, suc, ◌+◌, ◌*◌, ◌-◌, ◌/◌, ◌^◌, ◌≤◌, ◌<◌}
use mathlib.Core.Path.{◌≡◌, sym, ap, ap₂, ◌∙◌}
use mathlib.Core.Logic.{◌≢◌}
use native.Mathlib.Decide.{dec_lt}
use native.Mathlib.Omega.{arith}
use native.Mathlib.Nat.{pow-suc, lt_of_lt_of_le}
use lib.Bits.{bit_xor, xor_block, xor_lt}
use lib.Count.{count_leading_zeros, leading_top, leading_unique, leading_length, leading_of_zero}
use lib.Pow.{pow_pos, pow_mono, pow-add, shr_lt, shr_mono, shl-shr}

-- a number with fewer than k leading zeros is its highest bit and a rest
top : (k a : ℕ) → a < 2 ^ k → count_leading_zeros k a < k
    → (j : ℕ) × (count_leading_zeros k a + suc j ≡ k) × (r : ℕ) × (r < 2 ^ j) × (a ≡ 2 ^ j + r)
top k zero h l = absurd (omega (arith, leading_of_zero k))
top k (suc n) h l =
    let t = leading_top k (suc n) (omega arith) h in
    (t.0, t.1, suc n - 2 ^ t.0, omega (arith, t.3, pow-suc 2 t.0), omega (arith, t.2))

tops_cancel : (j r s : ℕ) → r < 2 ^ j → s < 2 ^ j → bit_xor (2 ^ j + r) (2 ^ j + s) ≡ bit_xor r s
tops_cancel j r s hr hs =
    let e : (x : ℕ) → 2 ^ j + x ≡ 1 * 2 ^ j + x = λ x. omega arith in
    ap₂ bit_xor (e r) (e s) ∙ xor_block j 1 1 r s hr hs ∙ omega arith

top_stays : (j r s : ℕ) → r < 2 ^ j → s < 2 ^ j → bit_xor (2 ^ j + r) s ≡ 2 ^ j + bit_xor r s
top_stays j r s hr hs =
    ap₂ bit_xor {x = 2 ^ j + r} {y = 1 * 2 ^ j + r} {u = s} {v = 0 * 2 ^ j + s} (omega arith) (omega arith)
    ∙ xor_block j 1 0 r s hr hs
    ∙ omega arith

pub leading_lt : (k a : ℕ) → a < 2 ^ k → a ≢ 0 → count_leading_zeros k a < k
leading_lt k a h n = let t = leading_top k a (omega arith) h in omega (arith, t.1)

pub leading_falls : (k a b : ℕ) → a < 2 ^ k → b < 2 ^ k → a ≢ 0 → count_leading_zeros k b ≡ count_leading_zeros k a → bit_xor a b < a
leading_falls k a b ha hb n e =
    let below = leading_lt k a ha n in
    let t = top k a ha below in
    let s = top k b hb (omega arith) in
    let same : s.0 ≡ t.0 = omega (arith, s.1, t.1) in
    let short : s.2 < 2 ^ t.0 = rw same at s.3 in
    let b_top : b ≡ 2 ^ t.0 + s.2 = s.4 ∙ ap (λ (j : ℕ). 2 ^ j + s.2) same in
    let split : bit_xor a b ≡ bit_xor t.2 s.2 = ap₂ bit_xor t.4 b_top ∙ tops_cancel t.0 t.2 s.2 t.3 short in
    omega (arith, split, xor_lt t.0 t.2 s.2 t.3 short, t.4)

pub leading_xor : (k a b : ℕ) → a < 2 ^ k → b < 2 ^ k → count_leading_zeros k a < count_leading_zeros k b → count_leading_zeros k (bit_xor a b) ≡ count_leading_zeros k a
leading_xor k a b ha hb l =
    let s = leading_length k b hb in
    let t = top k a ha (omega (arith, s.1)) in
    let short : b < 2 ^ t.0 = lt_of_lt_of_le s.2 (pow_mono (omega (arith, s.1, t.1))) in
    let split : bit_xor a b ≡ 2 ^ t.0 + bit_xor t.2 b = ap (λ (x : ℕ). bit_xor x b) t.4 ∙ top_stays t.0 t.2 b t.3 short in
    let low : bit_xor t.2 b < 2 ^ t.0 = xor_lt t.0 t.2 b t.3 short in
    sym (leading_unique k (bit_xor a b) (count_leading_zeros k a) (suc t.0) t.1 (omega (arith, split, pow-suc 2 t.0)) (omega (arith, split, pow-suc 2 t.0)))

pub leading_high : (k j a : ℕ) → a < 2 ^ (k + j) → 2 ^ j ≤ a → count_leading_zeros (k + j) a ≡ count_leading_zeros k (a / 2 ^ j)
leading_high k j a h l =
    let t = leading_top (k + j) a (omega (arith, pow_pos j)) h in
    let reach : j < suc t.0 = elim (dec_lt j (suc t.0)) [ yes r ↦ r | no n ↦ absurd (omega (arith, t.3, pow_mono {i = suc t.0} {j = j} (omega arith))) ] in
    let d : ℕ = t.0 - j in
    let sum : suc t.0 ≡ suc d + j = omega arith in
    let above : a / 2 ^ j < 2 ^ suc d = shr_lt (suc d) j (rw (sum) at t.3) in
    let whole : t.0 ≡ d + j = omega arith in
    let below : 2 ^ d ≤ a / 2 ^ j = rw (shl-shr (2 ^ d) j) at (shr_mono j (rw (whole, pow-add 2 d j) at t.2)) in
    leading_unique k (a / 2 ^ j) (count_leading_zeros (k + j) a) (suc d) (omega (arith, t.1, reach)) above (omega (arith, pow-suc 2 d, below))
