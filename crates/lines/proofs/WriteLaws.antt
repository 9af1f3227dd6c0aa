-- A text that is written into a buffer, part by part.
--   puts_yes               where there is, all of it
--   puts_unique            there is one text afterwards, and one answer
--   writes_none            nothing is written
--   writes_byte            one byte
--   writes_then            one part after the other
--   writes_length          the buffer keeps its length
--   Left w at x v r y      of w, which is to be written into x from place at on, v is left to write, into y from place r on
--   left_all               at first, all of it
--   left_more              a part less
--   left_done              at last, nothing
use Prim.Native.Nat.{ℕ, suc, ◌+◌}
use mathlib.Core.Path.{◌≡◌, refl, sym, ap, ◌∙◌}
use mathlib.Core.List.{List, [], ◌∷◌, ◌++◌}
use native.Mathlib.Decide.{dec_le}
use native.Mathlib.Omega.{arith}
use lib.ListN.{length, set, length-append}
use lib.Seq.{sets, length-sets}
use Rattle.lines.specs.Written.{RoomFor, Writes, Puts}

pub puts_yes : {w : List ℕ} {at : ℕ} {x x' : List ℕ} {r : ℕ} → RoomFor w at x → Writes w at x x' r → Puts w at x x' r
puts_yes fits wrote = record { written = λ _. wrote; refused = λ no_room. absurd (no_room fits) }

pub puts_unique : {w : List ℕ} {at : ℕ} {x y z : List ℕ} {r q : ℕ} → Puts w at x y r → Puts w at x z q → (r ≡ q) × (y ≡ z)
puts_unique {w} {at} {x} p o = elim (dec_le (at + length w) (length x)) [
  | yes fits ↦ ((p.written fits).next ∙ sym (o.written fits).next, (p.written fits).text ∙ sym (o.written fits).text)
  | no full ↦ ((p.refused full).0 ∙ sym (o.refused full).0, (p.refused full).1 ∙ sym (o.refused full).1)
]

sets_append : (v w x : List ℕ) (at : ℕ) → sets x at (v ++ w) ≡ sets (sets x at v) (at + length v) w
sets_append [] w x at = ap (λ (i : ℕ). sets x i w) {x = at} {y = at + 0} (omega arith)
sets_append (b ∷ v) w x at =
    sets_append v w (set x at b) (suc at)
    ∙ ap (λ (i : ℕ). sets (sets (set x at b) (suc at) v) i w) {x = suc at + length v} {y = at + suc (length v)} (omega arith)

module _ {at : ℕ} {x : List ℕ} where
  pub writes_none : Writes [] at x x at
  writes_none = record { next = omega arith; text = refl }

  pub writes_byte : {b : ℕ} → Writes (b ∷ []) at x (set x at b) (at + 1)
  writes_byte = record { next = refl; text = refl }

module _ {v : List ℕ} {at : ℕ} {x y : List ℕ} {r : ℕ} (first : Writes v at x y r) where
  pub writes_length : length y ≡ length x
  writes_length = ap length first.text ∙ length-sets x at v

  pub writes_then : {w z : List ℕ} {q : ℕ} → Writes w r y z q → Writes (v ++ w) at x z q
  writes_then {w} then = record {
    next = omega (arith, length-append v w);
    text = then.text ∙ rw (first.next, first.text) (sym (sets_append v w x at));
  }

pub record Left (w : List ℕ) (at : ℕ) (x v : List ℕ) (r : ℕ) (y : List ℕ) : Type 0 where
  pub fits : RoomFor w at x
  pub same : length y ≡ length x
  pub next : r + length v ≡ at + length w
  pub text : sets y r v ≡ sets x at w

pub left_all : {w : List ℕ} {at : ℕ} {x : List ℕ} → RoomFor w at x → Left w at x w at x
left_all fits = record { fits = fits; same = refl; next = refl; text = refl }

module _ {w : List ℕ} {at : ℕ} {x v : List ℕ} {r : ℕ} {y : List ℕ} (left : Left w at x v r y) where
  pub left_more : {u t z : List ℕ} {q : ℕ} → v ≡ u ++ t → Writes u r y z q → Left w at x t q z
  left_more {u} {t} parts wrote = record {
    fits = left.fits;
    same = writes_length wrote ∙ left.same;
    next = omega (arith, length-append u t, ap length parts);
    text = rw (wrote.next, wrote.text, ← sets_append u t y r, ← parts) left.text;
  }

  pub left_done : v ≡ [] → Writes w at x y r
  left_done none = record { next = omega (arith, ap length none); text = rw none at left.text }
