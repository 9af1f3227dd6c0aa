-- The table of 1 to 4.
--   outside_sizes_law    sizes that are refused give 1
--   within_sizes     sizes that are not leave 2 to 4 to decide
--   too_large        columns that are not all below 2^n give 3
--   order_ascending  its numbers go up, so the first that applies is the lowest
--   order_sound      none applies exactly when the sizes are right, every lent length is, and the columns are an order
use Prim.Native.Nat.{ℕ, ◌^◌}
use mathlib.Core.Path.{◌≡◌, sym, ◌∙◌}
use mathlib.Core.Bool.{Bool}
use mathlib.Core.List.{List, [], ◌∷◌}
use mathlib.Core.Logic.{◌↔◌}
use mathlib.Core.Option.{Option, none, some}
use native.Mathlib.Decide.{dec_lt}
use native.Mathlib.Omega.{arith}
use lib.ListN.{length, get_or}
use Rattle.kinds.specs.First.{first_of, Ascending}
use Rattle.kinds.specs.Answers.{Says}
use Rattle.kinds.specs.Reasons.{outside}
use Rattle.kinds.specs.Lengths.{Wanted, exactly, RightLengths}
use Rattle.kinds.specs.Decisions.{right_lengths?}
use Rattle.kinds.specs.declared.Refusal.{Refusal}
use Rattle.kinds.specs.declared.Refusal.TheVariants.{Sizes}
use Rattle.kinds.proofs.TruthLaws.{stable}
use Rattle.kinds.proofs.FirstLaws.{first_take, first_skip, first_none}
use Rattle.bits.specs.Image.{AllBelow}
use Rattle.span.specs.Decisions.{independent?}
use Rattle.order.specs.Order.{Order, ColumnTooLarge}
use Rattle.order.specs.Table.{column_too_large, column_table, order_table}

not_large : (n : ℕ) (C : List ℕ) → ¬ ColumnTooLarge n C → AllBelow (2 ^ n) C
not_large n C small j l = elim (dec_lt (get_or C j 0) (2 ^ n)) [ yes b ↦ b | no out ↦ absurd (small (j, l, omega arith)) ]

pub too_large : (n : ℕ) (C : List ℕ) → ¬ AllBelow (2 ^ n) C → ColumnTooLarge n C
too_large n C beyond = stable (column_too_large n C).decided (λ small. beyond (not_large n C small))

module _ {S : Type 0} (sized : Dec S) (n : ℕ) (C : List ℕ) where
  module _ (fits : Bool) where
    pub outside_sizes_law : ¬ S → (others : List (ℕ × Wanted)) → Says fits (RightLengths others) → some Sizes ≡ first_of (order_table S sized n C others)
    outside_sizes_law out others f = sym (first_take (outside S sized) (column_table n (C ∷ []) others) out)

    pub within_sizes : (o : Option Refusal) → S → ((others : List (ℕ × Wanted)) → Says fits (RightLengths others) → o ≡ first_of (column_table n (C ∷ []) others))
        → (others : List (ℕ × Wanted)) → Says fits (RightLengths others) → o ≡ first_of (order_table S sized n C others)
    within_sizes o s gives others f = gives others f ∙ sym (first_skip (outside S sized) (column_table n (C ∷ []) others) (λ out. out s))

  pub order_ascending : (others : List (ℕ × Wanted)) → Ascending (order_table S sized n C others)
  order_ascending others =
      ((omega arith, (omega arith, (omega arith, tt))), ((omega arith, (omega arith, tt)), ((omega arith, tt), (tt, tt))))

  pub order_sound : (others : List (ℕ × Wanted)) → first_of (order_table S sized n C others) ≡ none ↔ (S × RightLengths others × Order n C)
  order_sound others = (
    λ e.
        let none_applies = (first_none (order_table S sized n C others)).0 e in
        let right = stable (right_lengths? ((length C, exactly n) ∷ others)) none_applies.1.0 in
        let order : Order n C = record {
          count = right.0;
          below = not_large n C none_applies.1.1.0;
          independent = stable (independent? C) none_applies.1.1.1.0;
        } in
        (stable sized none_applies.0, right.1, order),
    λ (s, right, order).
        (first_none (order_table S sized n C others)).1 (
          λ out. out s,
          (λ wrong. wrong (order.count, right), (λ (j, l, large). omega (arith, order.below j l), (λ d. d order.independent, tt))),
        ),
  )
