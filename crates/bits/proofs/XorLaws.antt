-- Exclusive or makes numbers a group in which each is its own inverse, and AND distributes over it. Each law goes by halves:
-- two numbers are equal where their halves are and their lowest bits are.
--   by_halves           equal halves and equal lowest bits
--   even_or_odd         the lowest bit is 0 or 1
--   odd_add             sums of numbers that are odd or even alike are so too
--   xor_half, xor_low   the half and the lowest bit of an exclusive or
--   and_half, and_low   the same of AND
--   xor_assoc           brackets do not matter
--   xor_cancel, xor_cancel_right    a number twice is nothing
--   xor_swap            the inner two of four change places
--   xor_zero_eq         numbers whose exclusive or is 0 are equal
--   and_xor             AND distributes over exclusive or
--   xor_double          doubling passes through exclusive or
--   xor_split           a number is its lowest bit and twice its half
--   xor_above           a number of j bits and 2^j have no bit in common
use Prim.Native.Nat.{ℕ, zero, suc, ◌+◌, ◌*◌, ◌/◌, ◌%◌, ◌^◌, ◌<◌, min}
use mathlib.Core.Path.{◌≡◌, refl, sym, ap, ap₂, ◌∙◌}
use mathlib.Core.Logic.{◌⊎◌, inl, inr}
use native.Mathlib.Omega.{arith}
use native.Mathlib.Nat.{add-mod, add_assoc}
use lib.Arith.{bin_ind}
use lib.Bits.{bit_xor, bit_and, xor_shr, and_shr, xor_add_and, xor_comm, xor_self, xor_zero_r, xor_shifted, and_step}

pub by_halves : {a b : ℕ} → a / 2 ≡ b / 2 → a % 2 ≡ b % 2 → a ≡ b
by_halves h l = omega arith

pub even_or_odd : (x : ℕ) → (x % 2 ≡ 0) ⊎ (x % 2 ≡ 1)
even_or_odd x = bit (x % 2) (omega arith)
  where
    bit : (b : ℕ) → b < 2 → (b ≡ 0) ⊎ (b ≡ 1)
    bit zero h = inl refl
    bit (suc zero) h = inr refl
    bit (suc (suc b)) h = absurd (omega arith)

pub odd_add : (a b c d : ℕ) → a % 2 ≡ b % 2 → c % 2 ≡ d % 2 → (a + c) % 2 ≡ (b + d) % 2
odd_add a b c d h l = add-mod a c 2 ∙ ap₂ (λ (x y : ℕ). (x + y) % 2) h l ∙ sym (add-mod b d 2)

pub xor_half : (a b : ℕ) → bit_xor a b / 2 ≡ bit_xor (a / 2) (b / 2)
xor_half a b = xor_shr a b 1

pub xor_low : (a b : ℕ) → bit_xor a b % 2 ≡ (a + b) % 2
xor_low a b = omega (arith, xor_add_and a b)

pub and_half : (a b : ℕ) → bit_and a b / 2 ≡ bit_and (a / 2) (b / 2)
and_half a b = and_shr a b 1

pub and_low : (a b : ℕ) → bit_and a b % 2 ≡ min (a % 2) (b % 2)
and_low a b = omega (arith, and_step a b)

pub xor_assoc : (a b c : ℕ) → bit_xor (bit_xor a b) c ≡ bit_xor a (bit_xor b c)
xor_assoc =
    bin_ind (λ (a : ℕ). (b c : ℕ) → bit_xor (bit_xor a b) c ≡ bit_xor a (bit_xor b c)) (λ b c. refl)
    (λ a ih b c.
    by_halves
    (simp xor_half (ih (b / 2) (c / 2)))
    (xor_low (bit_xor a b) c
    ∙ odd_add (bit_xor a b) (a + b) c c (xor_low a b) refl
    ∙ ap (λ (x : ℕ). x % 2) (add_assoc a b c)
    ∙ sym (odd_add a a (bit_xor b c) (b + c) refl (xor_low b c))
    ∙ sym (xor_low a (bit_xor b c))))

pub xor_cancel : (a b : ℕ) → bit_xor a (bit_xor a b) ≡ b
xor_cancel a b = sym (xor_assoc a a b) ∙ ap (λ (x : ℕ). bit_xor x b) (xor_self a)

pub xor_cancel_right : (a b : ℕ) → bit_xor (bit_xor a b) b ≡ a
xor_cancel_right a b = xor_assoc a b b ∙ ap (bit_xor a) (xor_self b) ∙ xor_zero_r a

pub xor_swap : (a b c d : ℕ) → bit_xor (bit_xor a b) (bit_xor c d) ≡ bit_xor (bit_xor a c) (bit_xor b d)
xor_swap a b c d =
    xor_assoc a b (bit_xor c d)
    ∙ ap (bit_xor a) (sym (xor_assoc b c d) ∙ ap (λ (x : ℕ). bit_xor x d) (xor_comm b c) ∙ xor_assoc c b d)
    ∙ sym (xor_assoc a c (bit_xor b d))

pub xor_zero_eq : (a b : ℕ) → bit_xor a b ≡ 0 → a ≡ b
xor_zero_eq a b e = sym (xor_zero_r a) ∙ ap (bit_xor a) (sym e) ∙ xor_cancel a b

pub and_xor : (a b c : ℕ) → bit_and a (bit_xor b c) ≡ bit_xor (bit_and a b) (bit_and a c)
and_xor =
    bin_ind (λ (a : ℕ). (b c : ℕ) → bit_and a (bit_xor b c) ≡ bit_xor (bit_and a b) (bit_and a c)) (λ b c. refl)
    (λ a ih b c.
    by_halves
    (simp (xor_half, and_half) (ih (b / 2) (c / 2)))
    (omega (arith, xor_low b c, and_low a b, and_low a c, and_low a (bit_xor b c), xor_low (bit_and a b) (bit_and a c))))

double_half : (a : ℕ) → 2 * a / 2 ≡ a
double_half a = omega arith

pub xor_double : (a b : ℕ) → 2 * bit_xor a b ≡ bit_xor (2 * a) (2 * b)
xor_double a b =
    by_halves
    (double_half (bit_xor a b) ∙ sym (xor_half (2 * a) (2 * b) ∙ ap₂ bit_xor (double_half a) (double_half b)))
    (omega (arith, xor_low (2 * a) (2 * b)))

pub xor_split : (x : ℕ) → x ≡ bit_xor (x % 2) (2 * (x / 2))
xor_split x =
    by_halves
    (sym (xor_half (x % 2) (2 * (x / 2)) ∙ ap₂ bit_xor {x = x % 2 / 2} {y = 0} (omega arith) (double_half (x / 2))))
    (omega (arith, xor_low (x % 2) (2 * (x / 2))))

pub xor_above : (j p : ℕ) → p < 2 ^ j → bit_xor p (2 ^ j) ≡ 2 ^ j + p
xor_above j p l =
    xor_comm p (2 ^ j)
    ∙ ap (λ (x : ℕ). bit_xor x p) {x = 2 ^ j} {y = 1 * 2 ^ j} (omega arith)
    ∙ xor_shifted 1 j p l
    ∙ omega arith
