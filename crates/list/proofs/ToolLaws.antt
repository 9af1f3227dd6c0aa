-- What follows from the contracts of the listing alone.
--   lists_unique      the tool has one answer, and leaves one text and one length
--   prints_unique     there is one text to print, and one length of it
--   no_text           where the text is too short, that is refused as any wrong length, and the place for the length is as it came
use Prim.Native.Nat.{ℕ, ◌<◌}
use mathlib.Core.Path.{◌≡◌, refl, sym, ◌∙◌}
use mathlib.Core.List.{List, [], ◌∷◌}
use mathlib.Core.Logic.{◌≢◌}
use mathlib.Core.Option.{none}
use Rattle.std.specs.Prelude.{Result}
use native.Mathlib.Omega.{arith}
use lib.ListN.{length}
use Rattle.kinds.specs.Edition.{Edition, Sized}
use Rattle.kinds.specs.Decisions.{sized?}
use Rattle.kinds.specs.First.{first_of}
use Rattle.kinds.specs.Lengths.{Wanted, exactly, RightLengths}
use Rattle.kinds.specs.Reasons.{outside, wrong_length}
use Rattle.kinds.specs.Refusal.{said}
use Rattle.kinds.specs.declared.Refusal.{Refusal}
use Rattle.kinds.proofs.FirstLaws.{first_take, first_alike, first_none}
use Rattle.kinds.proofs.AnswerLaws.{said_same, answers_kept, answers_same, answers_agree}
use Rattle.card.specs.Card.{Readable, n_on, k_on, columns_on, unreadable, card_table}
use Rattle.card.proofs.CardLaws.{card?}
use Rattle.listed.specs.Tool.{text_places}
use Rattle.list.specs.Tool.{list_lengths, Lists, Prints}

module _ (e : Edition) (b t : List ℕ) where
  pub lists_unique : (l x y m o : List ℕ) (r q : Result Unit Refusal) → Lists e b t x l m r → Lists e b t y l o q → (r ≡ q) × ((x ≡ y) × (m ≡ o))
  lists_unique l x y m o r q lists also =
      let p = lists (card? b) in
      let w = also (card? b) in (
        said_same r q (answers_same p w),
        answers_agree p w (λ n u v. (u.0 ∙ sym v.0, u.1 ∙ sym v.1)) (λ u v. (u.0 ∙ sym v.0, u.1 ∙ sym v.1)),
      )

  pub prints_unique : {x y : List ℕ} {r q : ℕ} → Prints e b t x r → Prints e b t y q → (r ≡ q) × (x ≡ y)
  prints_unique prints also =
      let p = prints (card? b) in
      let w = also (card? b) in
      (p.length_of ∙ sym w.length_of, p.text ∙ sym w.text)

module _ {e : Edition} {b t u l m : List ℕ} (a : Result Unit Refusal) (lists : Lists e b t u l m a) (short : length t < text_places) (d : Dec (Readable b)) where
  wrong : ¬ RightLengths ((length (columns_on d), exactly (n_on d)) ∷ list_lengths t l)
  wrong right = omega (arith, short, right.1.0)

  refused : first_of (card_table e d (list_lengths t l)) ≢ none
  refused no_reason = ((first_none (card_table e d (list_lengths t l))).0 no_reason).1.1.0 wrong

  pub no_text : (q : List (ℕ × Wanted)) → ¬ RightLengths q → (said a ≡ first_of (unreadable d ∷ outside (Sized e (n_on d) (k_on d)) (sized? e (n_on d) (k_on d)) ∷ wrong_length q ∷ [])) × (m ≡ l)
  no_text q not = (
    (lists d).is_first
        ∙ first_alike _ _ _ _ refl (λ x. x, λ x. x) (first_alike _ _ _ _ refl (λ x. x, λ x. x) (first_take _ _ wrong ∙ sym (first_take _ _ not))),
    (answers_kept (lists d) refused).1,
  )
