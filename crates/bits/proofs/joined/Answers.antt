-- Where 2^k is no number of 32 bits, the upper part has no bit below 2^16.
use Rattle.std.proofs.Common.{ℕ, ◌≡◌, ◌+◌, ◌-◌, ◌*◌, ◌%◌, ◌^◌, ◌≤◌, sym, ap, ◌∙◌, arith, mul_assoc, pow-add}
use native.Mathlib.Decide.{dec_lt}
use native.Mathlib.Nat.{mul-add-mod_self_right}
use Rattle.bits.specs.Word.{TwoTo}
use Rattle.bits.proofs.joined.Goals as goal

all_above : (m h l k : ℕ) → m ≤ k → (h * 2 ^ k + l) % 2 ^ m ≡ l % 2 ^ m
all_above m h l k b =
    let apart : (k - m) + m ≡ k = omega arith in
    ap (λ (x : ℕ). (h * 2 ^ x + l) % 2 ^ m) (sym apart)
    ∙ ap (λ (x : ℕ). (h * x + l) % 2 ^ m) (pow-add 2 (k - m) m)
    ∙ ap (λ (x : ℕ). (x + l) % 2 ^ m) (sym (mul_assoc h (2 ^ (k - m)) (2 ^ m)))
    ∙ mul-add-mod_self_right (h * 2 ^ (k - m)) (2 ^ m) l

parts : (h l k r : ℕ) → TwoTo k r → (h * r + l) % 2 ^ 16 ≡ (h * 2 ^ k + l) % 2 ^ 16
parts h l k r t =
    elim (dec_lt k 32) [
      | yes b ↦ ap (λ (x : ℕ). (h * x + l) % 2 ^ 16) (t.fits b)
      | no b ↦ ap (λ (x : ℕ). (h * x + l) % 2 ^ 16) (t.beyond (omega arith)) ∙ ap (λ (x : ℕ). x % 2 ^ 16) (omega arith) ∙ sym (all_above 16 h l k (omega arith))
    ]

pub returns : goal.returns
returns c =
    let whole : c.from.result * c.from-2.result + c.from-3.result ≡ c.args.high * c.two_to.result + c.args.low = cc in
    rw whole (parts c.args.high c.args.low c.args.k c.two_to.result c.two_to.ensures)
