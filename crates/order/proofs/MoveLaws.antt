-- Frames put in order.
--   moved_exists    every frame can be put in order
--   moved_unique    there is one way to put a frame in order
--   moved_home      a frame put in order, and then in an order that undoes it, is the frame
use Prim.Native.Nat.{ℕ, ◌^◌, ◌<◌}
use mathlib.Core.Path.{◌≡◌, sym, ap, ◌∙◌}
use mathlib.Core.List.{List}
use lib.ListN.{length, get_or}
use lib.Seq.{ext_get_or}
use Rattle.kinds.specs.Frame.{in_order}
use Rattle.kinds.proofs.FrameLaws.{in_order_length, in_order_at}
use Rattle.span.proofs.Counting.{bijection_inverse}
use Rattle.order.specs.Order.{place, Order, Undoes, Moved}
use Rattle.order.proofs.OrderLaws.{order_bijection}

pub moved_exists : {n : ℕ} {C : List ℕ} → Order n C → (f : List ℕ) → (g : List ℕ) × Moved n C f g
moved_exists {n} {C} o f =
    let b = order_bijection o in
    let (from, _, _, home) = bijection_inverse b in (
      in_order (2 ^ n) (λ y. get_or f (from y) 0),
      record {
        whole = in_order_length (2 ^ n) _;
        each = λ i h. in_order_at (2 ^ n) _ 0 (place C i) (b.into i h) ∙ ap (λ (x : ℕ). get_or f x 0) (home i h);
      },
    )

pub moved_unique : {n : ℕ} {C f g h : List ℕ} → Order n C → Moved n C f g → Moved n C f h → g ≡ h
moved_unique {g} {h} o a b =
    ext_get_or 0 g h (a.whole ∙ sym b.whole) (λ y l.
    let x = (order_bijection o).onto y (rw a.whole at l) in
    rw (← x.2) (a.each x.0 x.1 ∙ sym (b.each x.0 x.1)))

pub moved_home : {n : ℕ} {C D f g h : List ℕ} → Order n C → Undoes n C D → length f ≡ 2 ^ n → Moved n C f g → Moved n D g h → h ≡ f
moved_home {n} {C} {f} {h} o u e a b =
    ext_get_or 0 h f (b.whole ∙ sym e) (λ i l.
    let k : i < 2 ^ n = rw b.whole at l in
    ap (λ (j : ℕ). get_or h j 0) (sym (u.home i k)) ∙ b.each (place C i) ((order_bijection o).into i k) ∙ a.each i k)
