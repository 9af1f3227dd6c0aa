-- The order on a card, as the listing goes on with it.
--   order_on_card     what the table of the order that was read gives, the card's gives
--   listed_read       the text for the order that was read is the card's
--   lengths_right     where the lent lengths are right, the table gives what it gives where none is lent
--   writes_onto       what is written from the first place on stands at the front, and the rest is as it came
--   one_short         a line with one number is short
--   prints_by         what is written first of all, where there is room for it, is printed
--   one_set           one place that is set
use Prim.Native.Nat.{ℕ, zero, suc, ◌+◌, ◌-◌, ◌^◌, ◌<◌, ◌≤◌}
use mathlib.Core.Path.{◌≡◌, refl, sym, ap, ◌∙◌}
use mathlib.Core.List.{List, [], ◌∷◌, ◌++◌}
use Rattle.std.specs.Prelude.{Ok}
use native.Mathlib.Omega.{arith}
use lib.ListN.{length, get_or, drop, set, length-append}
use lib.Seq.{sets-eq}
use Rattle.kinds.specs.Edition.{edition1, Sized}
use Rattle.kinds.specs.Decisions.{sized?}
use Rattle.kinds.specs.First.{first_of}
use Rattle.kinds.specs.Lengths.{Wanted, RightLengths}
use Rattle.kinds.proofs.FirstLaws.{first_none, first_skip, first_alike}
use Rattle.order.specs.Table.{order_table}
use Rattle.kinds.specs.Answers.{over_front}
use Rattle.card.specs.Card.{Readable, unreadable, ReadsAs, card_table}
use Rattle.lines.specs.Line.{line_end, line}
use Rattle.lines.specs.Written.{RoomFor, Writes}
use Rattle.lines.proofs.LineLaws.{ending_length}
use Rattle.listed.specs.Listing.{listing}
use Rattle.list.specs.Tool.{listing_of, PrintsAs}
use Rattle.card.specs.declared.Card.{Card as OrderCard}

module _ {b : List ℕ} {d : Dec (Readable b)} {c : OrderCard} (reads : ReadsAs d (Ok c)) where
  pub order_on_card : (others : List (ℕ × Wanted))
      → first_of (order_table (Sized edition1 c.n c.k) (sized? edition1 c.n c.k) c.n c.columns.items others) ≡ first_of (card_table edition1 d others)
  order_on_card others =
      rw (reads.card.n, reads.card.k, reads.card.columns) refl
      ∙ sym (first_skip (unreadable d) _ ((first_none (unreadable d ∷ [])).0 (sym reads.answer)).0)

  pub listed_read : listing c.n c.k c.columns.items ≡ listing_of d
  listed_read = rw (reads.card.n, reads.card.k, reads.card.columns) refl

module _ {b : List ℕ} (d : Dec (Readable b)) (others : List (ℕ × Wanted)) (right : RightLengths others) where
  pub lengths_right : first_of (card_table edition1 d others) ≡ first_of (card_table edition1 d [])
  lengths_right =
      first_alike _ _ _ _ refl (λ a. a, λ a. a)
      (first_alike _ _ _ _ refl (λ a. a, λ a. a)
      (first_alike _ _ _ _ refl (λ wrong r. wrong (r.0, right), λ wrong r. wrong (r.0, tt)) refl))

pub writes_onto : {w x y : List ℕ} {r : ℕ} → Writes w 0 x y r → RoomFor w 0 x → y ≡ over_front w x
writes_onto {w} {x} wrote fits = wrote.text ∙ sets-eq w x 0 fits ∙ ap (λ (i : ℕ). w ++ drop i x) {x = 0 + length w} {y = length w} (omega arith)

pub one_short : (name : List ℕ) (x : ℕ) → x < 2 ^ 32 → length (line name (x ∷ [])) ≤ length name + 12
one_short name x small = omega (arith, length-append name (line_end (x ∷ [])), ending_length (x ∷ []) one)
  where
    one : (j : ℕ) → j < 1 → get_or (x ∷ []) j 0 < 2 ^ 32
    one zero h = small
    one (suc j) h = absurd (omega arith)

pub prints_by : {w t t' : List ℕ} {r : ℕ} → Writes w 0 t t' r → RoomFor w 0 t → PrintsAs w t t' r
prints_by writes fits = record { length_of = omega (arith, writes.next); text = writes_onto writes fits }

pub one_set : (l : List ℕ) {x : ℕ} → length l ≡ 1 → set l 0 x ≡ x ∷ []
one_set [] h = absurd (omega arith)
one_set (a ∷ []) h = refl
one_set (a ∷ c ∷ l) h = absurd (omega arith)
