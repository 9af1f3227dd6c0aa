-- Words 0 to 2^n - 1 in lamp order.
--   lamp_moved      they are these words put in order
use Prim.Native.Nat.{ℕ, ◌^◌}
use mathlib.Core.Path.{refl, sym, ◌∙◌}
use mathlib.Core.List.{List}
use native.Mathlib.Decide.{ℕ_discrete}
use Rattle.kinds.specs.Frame.{in_order}
use Rattle.kinds.proofs.FrameLaws.{in_order_length, in_order_at}
use Rattle.kinds.proofs.SearchLaws.{found_has}
use Rattle.order.specs.Order.{place, Order, Moved}
use Rattle.order.proofs.OrderLaws.{order_bijection}
use Rattle.trial.specs.Trial.{word_at_place, words_as_they_leave}

pub lamp_moved : {n : ℕ} {C : List ℕ} → Order n C → Moved n C (in_order (2 ^ n) (λ i. i)) (words_as_they_leave n C)
lamp_moved {n} {C} order =
    let places = order_bijection order in
    record {
      whole = in_order_length (2 ^ n) _;
      each = λ i h.
          let (below, there) = found_has (λ j. ℕ_discrete (place C j) (place C i)) (2 ^ n) (i, h, refl) in
          in_order_at (2 ^ n) (word_at_place n C) 0 (place C i) (places.into i h) ∙ places.injective _ i below h there ∙ sym (in_order_at (2 ^ n) (λ j. j) 0 i h);
    }
