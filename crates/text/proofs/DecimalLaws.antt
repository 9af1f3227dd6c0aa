-- Numbers in decimal.
--   decimal_small     a number below 10 is its digit
--   decimal_more      any other is the number without its last digit, and that digit
--   decimal_longer    which makes it one digit longer
--   decimal_some      a number has a digit
--   decimal_length    and one below 10^m has at most m
use Prim.Native.Nat.{ℕ, zero, suc, ◌+◌, ◌/◌, ◌%◌, ◌^◌, ◌<◌, ◌≤◌}
use mathlib.Core.Path.{◌≡◌, sym, ap, ◌∙◌}
use mathlib.Core.List.{List, [], ◌∷◌, ◌++◌}
use native.Mathlib.Decide.{dec_lt}
use native.Mathlib.Omega.{arith}
use borrow.Author.Tests.{lt-ltb, le-ltb}
use lib.ListN.{length, length-append}
use Rattle.text.specs.Decimal.{digit, decimal_in, decimal}

in_small : (m x : ℕ) → x < 10 → decimal_in (suc m) x ≡ digit x ∷ []
unfolding decimal_in
in_small m x h = rw (lt-ltb x 10 h, decimal_in)

in_more : (m x : ℕ) → 10 ≤ x → decimal_in (suc m) x ≡ decimal_in m (x / 10) ++ (digit (x % 10) ∷ [])
unfolding decimal_in
in_more m x h = rw (le-ltb x 10 h, decimal_in)

-- more places than enough change nothing
in_enough : (m l x : ℕ) → x < m → x < l → decimal_in m x ≡ decimal_in l x
in_enough zero l x h k = absurd (omega arith)
in_enough (suc m) zero x h k = absurd (omega arith)
in_enough (suc m) (suc l) x h k = elim (dec_lt x 10) [
  | yes small ↦ in_small m x small ∙ sym (in_small l x small)
  | no more ↦
      in_more m x (omega arith)
      ∙ ap (λ (ds : List ℕ). ds ++ (digit (x % 10) ∷ [])) (in_enough m l (x / 10) (omega arith) (omega arith))
      ∙ sym (in_more l x (omega arith))
]

pub decimal_small : (x : ℕ) → x < 10 → decimal x ≡ digit x ∷ []
decimal_small x = in_small x x

pub decimal_more : (x : ℕ) → 10 ≤ x → decimal x ≡ decimal (x / 10) ++ (digit (x % 10) ∷ [])
decimal_more x h =
    in_more x x h ∙ ap (λ (ds : List ℕ). ds ++ (digit (x % 10) ∷ [])) (in_enough x (suc (x / 10)) (x / 10) (omega arith) (omega arith))

pub decimal_longer : (x : ℕ) → 10 ≤ x → length (decimal x) ≡ length (decimal (x / 10)) + 1
decimal_longer x h = ap length (decimal_more x h) ∙ length-append (decimal (x / 10)) (digit (x % 10) ∷ [])

pub decimal_some : (x : ℕ) → 1 ≤ length (decimal x)
decimal_some x = elim (dec_lt x 10) [
  | yes small ↦ omega (arith, ap length (decimal_small x small))
  | no more ↦ omega (arith, decimal_longer x (omega arith))
]

pub decimal_length : (m x : ℕ) → 1 ≤ m → x < 10 ^ m → length (decimal x) ≤ m
decimal_length zero x some h = absurd (omega arith)
decimal_length (suc zero) x some h = omega (arith, ap length (decimal_small x h))
decimal_length (suc (suc m)) x some h = elim (dec_lt x 10) [
  | yes small ↦ omega (arith, ap length (decimal_small x small))
  | no more ↦ omega (arith, decimal_longer x (omega arith), decimal_length (suc m) (x / 10) (omega arith) (omega arith))
]
