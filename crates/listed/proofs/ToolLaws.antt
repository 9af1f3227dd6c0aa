-- What follows from the contract of the listing of an order alone.
--   lists_order_unique    there is one text, and one length of it
use Prim.Native.Nat.{ℕ}
use mathlib.Core.Path.{◌≡◌, refl, sym, ap, ◌∙◌}
use mathlib.Core.List.{List, []}
use mathlib.Core.Option.{Option, none, some}
use Rattle.std.specs.Prelude.{Option as Maybe, Some}
use native.Mathlib.Decide.{dec_le}
use lib.ListN.{length}
use Rattle.kinds.specs.Edition.{edition1, Sized}
use Rattle.kinds.specs.Decisions.{sized?}
use Rattle.kinds.specs.First.{first_of}
use Rattle.kinds.specs.declared.Refusal.{Refusal}
use Rattle.kinds.proofs.FirstLaws.{none_some}
use Rattle.order.specs.Table.{order_table}
use Rattle.order.proofs.TableLaws.{order_sound}
use Rattle.listed.specs.Tool.{text_places, Listable, ListsOrder}

module _ (n k : ℕ) (C x : List ℕ) where
  abbrev given : Option Refusal
  given = first_of (order_table (Sized edition1 n k) (sized? edition1 n k) n C [])

  listable_by : (o : Option Refusal) → given ≡ o → Dec (Listable n k C x)
  listable_by none e = elim (dec_le text_places (length x)) [
    | yes places ↦ let (sized, _, order) = (order_sound (sized? edition1 n k) n C []).0 e in yes (record { sized = sized; order = order; places = places })
    | no short ↦ no (λ l. short l.places)
  ]
  listable_by (some y) e = no (λ l. none_some (sym ((order_sound (sized? edition1 n k) n C []).1 (l.sized, tt, l.order)) ∙ e))

  pub lists_order_unique : {y z : List ℕ} {r q : Maybe ℕ} → ListsOrder n k C x y r → ListsOrder n k C x z q → (y ≡ z) × (r ≡ q)
  lists_order_unique a b = elim (listable_by given refl) [
    | yes l ↦
        let (_, r_is, one) = a.written l in
        let (_, q_is, other) = b.written l in
        (one.text ∙ sym other.text, r_is ∙ ap Some (one.next ∙ sym other.next) ∙ sym q_is)
    | no not ↦ ((a.left not).0 ∙ sym (b.left not).0, (a.left not).1 ∙ sym (b.left not).1)
  ]
