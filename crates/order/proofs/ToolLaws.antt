-- What follows from the inverse's contract alone.
--   inverse_sound       where it is done, the columns are an order
--   inverts_unique      it has one answer, and leaves one content
use Prim.Native.Nat.{ℕ}
use mathlib.Core.Path.{◌≡◌, sym, ◌∙◌}
use mathlib.Core.List.{List}
use mathlib.Core.Option.{none}
use Rattle.std.specs.Prelude.{Result}
use Rattle.kinds.specs.Edition.{Edition}
use Rattle.kinds.specs.Decisions.{sized_n?}
use Rattle.kinds.specs.First.{first_of}
use Rattle.kinds.specs.declared.Refusal.{Refusal}
use Rattle.kinds.proofs.AnswerLaws.{said_same, answers_same, answers_agree}
use Rattle.order.specs.Order.{Order}
use Rattle.order.specs.Table.{inverse_lengths, inverse_table}
use Rattle.order.specs.Tools.{Inverts}
use Rattle.order.proofs.OrderLaws.{undoes_unique}
use Rattle.order.proofs.TableLaws.{order_sound}

module _ (e : Edition) (n : ℕ) (C out : List ℕ) where
  pub inverse_sound : first_of (inverse_table e n C out) ≡ none → Order n C
  inverse_sound l = ((order_sound (sized_n? e n) n C (inverse_lengths n out)).0 l).2

  pub inverts_unique : (a b : List ℕ) (r s : Result Unit Refusal) → Inverts e n C out a r → Inverts e n C out b s → (r ≡ s) × (a ≡ b)
  inverts_unique a b r s p q = (
    said_same r s (answers_same p q),
    answers_agree p q (λ l u w. undoes_unique (inverse_sound l) u w) (λ k l. k ∙ sym l),
  )
