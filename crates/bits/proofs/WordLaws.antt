-- Powers of two in a machine word.
--   two_to_unique     for every exponent there is one answer
use Prim.Native.Nat.{ℕ}
use mathlib.Core.Path.{◌≡◌, sym, ◌∙◌}
use native.Mathlib.Decide.{dec_lt}
use native.Mathlib.Omega.{arith}
use Rattle.bits.specs.Word.{TwoTo}

pub two_to_unique : (k : ℕ) {r q : ℕ} → TwoTo k r → TwoTo k q → r ≡ q
two_to_unique k x y = elim (dec_lt k 32) [
  | yes few ↦ x.fits few ∙ sym (y.fits few)
  | no many ↦ x.beyond (omega arith) ∙ sym (y.beyond (omega arith))
]
