-- Orders, and the columns that undo one.
--   order_bijection    an order's places are a bijection of the words of a frame
--   order_sum          every number of n bits is a sum of its columns
--   LeavesAt n C p i   word i of the frame leaves at place p
--   order_asked        a scan of the columns, asked for a place, names the word that leaves there
--   undoes_columns     the words that leave at 2^0 .. 2^(n-1) are columns that undo an order
--   undoes_leaves      and columns that undo it are those words
--   undoes_order       what undoes an order is an order
--   undoes_sym         and is undone by it
--   undoes_unique      and nothing else undoes it
use Prim.Native.Nat.{ℕ, ◌^◌, ◌<◌}
use mathlib.Core.Path.{◌≡◌, refl, sym, ap, ◌∙◌}
use mathlib.Core.List.{List}
use lib.ListN.{length, get_or}
use lib.Pow.{pow-lt}
use lib.Seq.{ext_get_or}
use Rattle.std.specs.Prelude.{Option, Some}
use Rattle.bits.proofs.ImageLaws.{image_zero, image_xor, image_unit, image_lt, linear_agree}
use Rattle.span.specs.Maps.{Bijection}
use Rattle.span.specs.Sums.{SumOf}
use Rattle.span.specs.Held.{Holds}
use Rattle.span.specs.Tools.{Asks}
use Rattle.span.specs.declared.Scan.{Scan}
use Rattle.span.proofs.SumLaws.{independent_bijection}
use Rattle.span.proofs.ToolLaws.{asked}
use Rattle.order.specs.Order.{place, Order, Undoes}

pub order_bijection : {n : ℕ} {C : List ℕ} → Order n C → Bijection (place C) (2 ^ n)
order_bijection {n} {C} o = independent_bijection n C o.count o.below o.independent

pub order_sum : {n : ℕ} {C : List ℕ} {v : ℕ} → Order n C → v < 2 ^ n → SumOf C v
order_sum {v = v} o h = let x = (order_bijection o).onto v h in record { selected = x.0; below = rw o.count x.1; sum = x.2 }

abbrev pub LeavesAt : ℕ → List ℕ → ℕ → ℕ → Type 0
LeavesAt n C p i = (i < 2 ^ n) × (place C i ≡ p)

pub order_asked : {n : ℕ} {C : List ℕ} {scan : Scan} {p : ℕ} {r : Option ℕ} → Order n C → Holds scan C → p < 2 ^ n → Asks scan p r
    → (i : ℕ) × (r ≡ Some i) × LeavesAt n C p i
order_asked o holds h a = let (i, is, low, sum) = asked holds (order_sum o h) a in (i, is, (rw o.count at low, sum))

pub undoes_columns : {n : ℕ} {C D : List ℕ} → Order n C → length D ≡ n → ((b : ℕ) → b < n → LeavesAt n C (2 ^ b) (get_or D b 0)) → Undoes n C D
undoes_columns {n} {C} {D} o count leaves = record {
  count = count;
  home = λ i h.
      let below = image_lt n D (λ j l. (leaves j (rw count at l)).0) (place C i) in
      places.injective (place D (place C i)) i below h (back (place C i) (places.into i h));
  back = back;
}
  where
    places : Bijection (place C) (2 ^ n)
    places = order_bijection o

    back : (i : ℕ) → i < 2 ^ n → place C (place D i) ≡ i
    back = linear_agree n (λ i. place C (place D i)) (λ i. i)
        (λ x y. ap (place C) (image_xor D x y) ∙ image_xor C (place D x) (place D y))
        (λ x y. refl)
        (λ j h. ap (place C) (image_unit D j) ∙ (leaves j h).1)

module _ {n : ℕ} {C D : List ℕ} (o : Order n C) (u : Undoes n C D) where
  pub undoes_leaves : (b : ℕ) → b < n → LeavesAt n C (2 ^ b) (get_or D b 0)
  undoes_leaves b h =
      let x = (order_bijection o).onto (2 ^ b) (pow-lt h) in
      let is : get_or D b 0 ≡ x.0 = sym (image_unit D b) ∙ ap (place D) (sym x.2) ∙ u.home x.0 x.1 in
      rw is (x.1, x.2)

  pub undoes_order : Order n D
  undoes_order = record {
    count = u.count;
    below = λ j h. (undoes_leaves j (rw u.count at h)).0;
    independent = λ m h e. sym (u.back m (rw u.count at h)) ∙ ap (place C) e ∙ image_zero C;
  }

  pub undoes_sym : Undoes n D C
  undoes_sym = record { count = o.count; home = u.back; back = u.home }

pub undoes_unique : {n : ℕ} {C D E : List ℕ} → Order n C → Undoes n C D → Undoes n C E → D ≡ E
undoes_unique {n} {D = D} {E} o u w =
    ext_get_or 0 D E (u.count ∙ sym w.count)
    (λ j h.
    let l : j < n = rw u.count at h in
    let d = undoes_leaves o u j l in
    let e = undoes_leaves o w j l in
    (order_bijection o).injective (get_or D j 0) (get_or E j 0) d.0 e.0 (d.1 ∙ sym e.1))
