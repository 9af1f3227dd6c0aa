-- The parts of a side, as parts of a slice.
--   zero_below      numbers are all below 1 exactly when all are zero
--   take_same       where the rest is zero, a list shows what its beginning shows
--   used_part       the part of a slice that is the first of some places
--   unused_part     the part of a slice that is what is left of some places
--   last_part       the part of a slice that is what is left of it from some place on
use Prim.Native.Nat.{ℕ, zero, suc, ◌+◌, ◌-◌, ◌≤◌}
use mathlib.Core.Path.{◌≡◌, sym, ap, ◌∙◌}
use mathlib.Core.List.{List, [], ◌∷◌}
use mathlib.Core.Logic.{◌↔◌}
use native.Mathlib.Nat.{sub-zero, zero-sub, suc-sub-suc}
use native.Mathlib.Decide.{dec_lt}
use native.Mathlib.Omega.{arith}
use lib.ListN.{length, get_or, take, drop, length-take, length-drop, get_or-eq_default}
use lib.Seq.{get_or-take, get_or-drop, take_all, take-nil, take-take, drop-drop}
use Rattle.bits.specs.Image.{AllBelow}
use Rattle.sheet.specs.Layout.{AllZero}

pub zero_below : (l : List ℕ) → AllBelow 1 l ↔ AllZero l
zero_below l = (λ below j h. omega (arith, below j h), λ zeros j h. omega (arith, zeros j h))

zero_from : (i : ℕ) (l : List ℕ) → AllZero (drop i l) → (j : ℕ) → i ≤ j → get_or l j 0 ≡ 0
zero_from i l zeros j h =
    ap (λ (x : ℕ). get_or l x 0) {x = j} {y = i + (j - i)} (omega arith)
    ∙ sym (get_or-drop i l (j - i) 0)
    ∙ elim (dec_lt (j - i) (length (drop i l))) [
      | yes inside ↦ zeros (j - i) inside
      | no beyond ↦ get_or-eq_default (drop i l) 0 (omega arith)
    ]

pub take_same : (m : ℕ) (l : List ℕ) → AllZero (drop m l) → (j : ℕ) → get_or l j 0 ≡ get_or (take m l) j 0
take_same m l zeros j = elim (dec_lt j m) [
  | yes h ↦ sym (get_or-take m l j 0 h)
  | no h ↦ zero_from m l zeros j (omega arith) ∙ sym (get_or-eq_default (take m l) 0 (omega (arith, length-take m l)))
]

drop_take : (a b : ℕ) (l : List ℕ) → drop a (take b l) ≡ take (b - a) (drop a l)
drop_take zero b l = rw sub-zero
drop_take (suc a) zero l = rw zero-sub
drop_take (suc a) (suc b) [] = sym (take-nil (suc b - suc a))
drop_take (suc a) (suc b) (x ∷ xs) = rw suc-sub-suc (drop_take a b xs)

module _ (l : List ℕ) where
  pub used_part : (from to a b : ℕ) → to ≡ from + a → a ≤ b → take (to - from) (drop from l) ≡ take a (take b (drop from l))
  used_part from to a b e h =
      let long : to - from ≡ a = omega arith in
      rw long (sym (take-take a b (drop from l) h))

  pub unused_part : (at from to a b : ℕ) → from ≡ at + a → to ≡ at + b → take (to - from) (drop from l) ≡ drop a (take b (drop at l))
  unused_part at from to a b e h =
      let long : to - from ≡ b - a = omega arith in
      rw long (rw e (sym (drop_take a b (drop at l) ∙ ap (take (b - a)) (drop-drop a at l))))

  pub last_part : (at a : ℕ) → take (length l - (at + a)) (drop (at + a) l) ≡ drop a (drop at l)
  last_part at a =
      take_all (length l - (at + a)) (drop (at + a) l) (omega (arith, length-drop (at + a) l)) ∙ sym (drop-drop a at l)
