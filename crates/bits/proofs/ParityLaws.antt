-- Odd or even, and single bits.
--   ones_least          a number that is not 0 has a one
--   parity_lt, parity_zero, parity_step    parity is 0 or 1, is 0 of 0, and goes bit by bit
--   parity_xor          the parity of an exclusive or
--   dot_lt, dot_comm, dot_zero             dot is 0 or 1, the same either way round, and 0 with 0
--   dot_xor_right, dot_xor_left    dot passes through exclusive or, on either side
--   dot_step            dot goes bit by bit
--   bit_suc             a bit of a number is the bit below it of the half
--   bit_xor_law             a bit of an exclusive or
--   bit_same, bit_other    the bits of 2^j: bit j is 1, any other 0
--   unit_half, unit_low    the half and the lowest bit of 2^(j+1)
--   dot_unit            dot with 2^j is bit j
--   by_bits             numbers of k bits with equal bits are equal
--   bit_low, bit_high   the bits of the lower k bits of a number, and of the others
use Prim.Native.Nat.{ℕ, zero, suc, ◌+◌, ◌/◌, ◌%◌, ◌^◌, ◌<◌, ◌≤◌, min, ◌-◌}
use mathlib.Core.Path.{◌≡◌, refl, sym, ap, ap₂, ◌∙◌}
use mathlib.Core.Logic.{◌≢◌}
use native.Mathlib.Decide.{dec_le}
use native.Mathlib.Omega.{arith}
use native.Mathlib.Nat.{add-mod, pow-suc, mod-lt}
use lib.Arith.{bin_ind}
use lib.Bits.{bit_xor, bit_and, and_comm, and_zero_r}
use lib.Count.{ones, ones_step}
use lib.Pow.{shr-shr, pow_pos, high, mod-pow-add, mod-mod-pow}
use Rattle.bits.specs.Parity.{bit, parity, dot}
use Rattle.bits.proofs.XorLaws.{by_halves, odd_add, xor_half, xor_low, and_half, and_low, and_xor}

pub ones_least : (x : ℕ) → 1 ≤ x → 1 ≤ ones x
ones_least =
    bin_ind (λ (x : ℕ). 1 ≤ x → 1 ≤ ones x)
    (λ h. absurd (omega arith))
    (λ x ih h. elim (dec_le 1 (x / 2)) [ yes more ↦ omega (arith, ones_step x, ih more) | no least ↦ omega (arith, ones_step x) ])

pub parity_lt : (x : ℕ) → parity x < 2
unfolding parity
parity_lt x = omega arith

pub parity_zero : parity 0 ≡ 0
unfolding parity ones
parity_zero = refl

pub parity_step : (x : ℕ) → parity x ≡ (x + parity (x / 2)) % 2
unfolding parity
parity_step x = omega (arith, ones_step x)

odd_sum : (x a b p q r : ℕ) → x % 2 ≡ (a + b) % 2 → r ≡ (p + q) % 2 → (x + r) % 2 ≡ ((a + p) % 2 + (b + q) % 2) % 2
odd_sum x a b p q r h l =
    odd_add x (a + b) r (p + q) h (omega arith)
    ∙ ap (λ (n : ℕ). n % 2) (omega arith)
    ∙ add-mod (a + p) (b + q) 2

pub parity_xor : (a b : ℕ) → parity (bit_xor a b) ≡ (parity a + parity b) % 2
parity_xor =
    bin_ind (λ (a : ℕ). (b : ℕ) → parity (bit_xor a b) ≡ (parity a + parity b) % 2)
    (λ b. rw parity_zero (omega (arith, parity_lt b)))
    (λ a ih b.
    parity_step (bit_xor a b)
    ∙ ap (λ (x : ℕ). (bit_xor a b + parity x) % 2) (xor_half a b)
    ∙ odd_sum (bit_xor a b) a b (parity (a / 2)) (parity (b / 2)) (parity (bit_xor (a / 2) (b / 2))) (xor_low a b) (ih (b / 2))
    ∙ ap₂ (λ (x y : ℕ). (x + y) % 2) (sym (parity_step a)) (sym (parity_step b)))

pub dot_lt : (a b : ℕ) → dot a b < 2
unfolding dot
dot_lt a b = parity_lt (bit_and a b)

pub dot_comm : (a b : ℕ) → dot a b ≡ dot b a
unfolding dot
dot_comm a b = ap parity (and_comm a b)

pub dot_zero : (a : ℕ) → dot a 0 ≡ 0
unfolding dot
dot_zero a = ap parity (and_zero_r a) ∙ parity_zero

pub dot_xor_right : (a b c : ℕ) → dot a (bit_xor b c) ≡ (dot a b + dot a c) % 2
unfolding dot
dot_xor_right a b c = ap parity (and_xor a b c) ∙ parity_xor (bit_and a b) (bit_and a c)

pub dot_xor_left : (a b c : ℕ) → dot (bit_xor a b) c ≡ (dot a c + dot b c) % 2
dot_xor_left a b c = dot_comm (bit_xor a b) c ∙ dot_xor_right c a b ∙ ap₂ (λ (x y : ℕ). (x + y) % 2) (dot_comm c a) (dot_comm c b)

pub dot_step : (a b : ℕ) → dot a b ≡ (min (a % 2) (b % 2) + dot (a / 2) (b / 2)) % 2
unfolding dot
dot_step a b =
    parity_step (bit_and a b)
    ∙ ap (λ (x : ℕ). (bit_and a b + parity x) % 2) (and_half a b)
    ∙ odd_add (bit_and a b) (min (a % 2) (b % 2)) (dot (a / 2) (b / 2)) (dot (a / 2) (b / 2)) (omega (arith, and_low a b)) refl

pub bit_suc : (j a : ℕ) → bit (suc j) a ≡ bit j (a / 2)
bit_suc j a = ap (λ (x : ℕ). x % 2) (ap (λ (x : ℕ). a / 2 ^ x) (omega arith) ∙ sym (shr-shr a 1 j))

pub unit_half : (j : ℕ) → 2 ^ suc j / 2 ≡ 2 ^ j
unit_half j = omega (arith, pow-suc 2 j)

pub unit_low : (j : ℕ) → 2 ^ suc j % 2 ≡ 0
unit_low j = omega (arith, pow-suc 2 j)

pub dot_unit : (j a : ℕ) → dot a (2 ^ j) ≡ bit j a
dot_unit zero a = dot_step a 1 ∙ rw (dot_zero (a / 2)) (omega arith)
dot_unit (suc j) a =
    dot_step a (2 ^ suc j)
    ∙ rw (unit_half j, unit_low j, dot_unit j (a / 2)) (omega arith)
    ∙ sym (bit_suc j a)

pub bit_xor_law : (j a b : ℕ) → bit j (bit_xor a b) ≡ (bit j a + bit j b) % 2
bit_xor_law j a b =
    sym (dot_unit j (bit_xor a b)) ∙ dot_xor_left a b (2 ^ j) ∙ ap₂ (λ (x y : ℕ). (x + y) % 2) (dot_unit j a) (dot_unit j b)

bit_zero : (j : ℕ) → bit j 0 ≡ 0
bit_zero j = sym (dot_unit j 0) ∙ dot_comm 0 (2 ^ j) ∙ dot_zero (2 ^ j)

pub bit_same : (j : ℕ) → bit j (2 ^ j) ≡ 1
bit_same zero = refl
bit_same (suc j) = bit_suc j (2 ^ suc j) ∙ ap (bit j) (unit_half j) ∙ bit_same j

pub bit_other : (l j : ℕ) → l ≢ j → bit l (2 ^ j) ≡ 0
bit_other zero zero n = absurd (n refl)
bit_other zero (suc j) n = omega (arith, unit_low j)
bit_other (suc l) zero n = bit_suc l 1 ∙ bit_zero l
bit_other (suc l) (suc j) n = bit_suc l (2 ^ suc j) ∙ ap (bit l) (unit_half j) ∙ bit_other l j (λ e. n (ap suc e))

pub by_bits : (k : ℕ) (a b : ℕ) → a < 2 ^ k → b < 2 ^ k → ((j : ℕ) → j < k → bit j a ≡ bit j b) → a ≡ b
by_bits zero a b ha hb h = omega arith
by_bits (suc k) a b ha hb h =
    by_halves
    (by_bits k (a / 2) (b / 2) (omega (arith, pow-suc 2 k)) (omega (arith, pow-suc 2 k))
    (λ j l. sym (bit_suc j a) ∙ h (suc j) (omega arith) ∙ bit_suc j b))
    (omega (arith, h 0 (omega arith)))

bit_top : (j x : ℕ) → bit j x ≡ x % 2 ^ (1 + j) / 2 ^ j
bit_top j x = sym (ap (λ (y : ℕ). y / 2 ^ j) (mod-pow-add x 1 j) ∙ high (bit j x) j (mod-lt x (pow_pos j)))

pub bit_low : (j k x : ℕ) → j < k → bit j (x % 2 ^ k) ≡ bit j x
bit_low j k x h =
    let above : k ≡ (k - (1 + j)) + (1 + j) = omega arith in
    bit_top j (x % 2 ^ k) ∙ ap (λ (y : ℕ). y / 2 ^ j) (rw above (mod-mod-pow x (k - (1 + j)) (1 + j))) ∙ sym (bit_top j x)

pub bit_high : (j k x : ℕ) → bit j (x / 2 ^ k) ≡ bit (k + j) x
bit_high j k x = ap (λ (y : ℕ). y % 2) (shr-shr x k j)
