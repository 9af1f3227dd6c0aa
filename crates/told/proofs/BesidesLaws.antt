-- A tool of C that is lent buffers beside those of the board's tool.
--   besides_wrong        one of them is wrong
--   besides_sizes        one of them is wrong, and only 1 comes before 2
--   besides_unique       where the tool has one answer, so has the tool of C; X is what else two answers have in common, as the buffers
--   answers_as_wrong     the three places are not three
--   answers_as_sizes     they are not, and only 1 comes before 2
--   answers_as_unique    where the tool has one answer, the tool of C has one number, and leaves three places as one content
use Prim.Native.Nat.{ℕ}
use mathlib.Core.Path.{◌≡◌, refl, sym, ap, ◌∙◌}
use mathlib.Core.Bool.{Bool, true, false, cond}
use mathlib.Core.List.{List, [], ◌∷◌, ◌++◌}
use lib.ListN.{length}
use Rattle.std.specs.Prelude.{Result}
use Rattle.kinds.specs.Answers.{Says}
use Rattle.kinds.specs.Decisions.{right_lengths?}
use Rattle.kinds.specs.First.{Reason, first_of}
use Rattle.kinds.specs.Lengths.{Wanted, exactly, RightLengths}
use Rattle.kinds.specs.Reasons.{outside, wrong_length}
use Rattle.kinds.specs.Refusal.{said, given}
use Rattle.kinds.specs.declared.Refusal.{Refusal}
use Rattle.kinds.proofs.FirstLaws.{first_take, first_skip}
use Rattle.kinds.proofs.TruthLaws.{denied}
use Rattle.told.specs.Told.{named, Besides, AnswersAs}

module _ {before : List Reason} {l : List (ℕ × Wanted)} {r : ℕ} {T K : Type 0} where
  pub besides_wrong : (wrong : ¬ RightLengths l) → r ≡ given (first_of (before ++ (wrong_length l ∷ []))) → K → Besides before l r T K
  besides_wrong wrong number kept = record { right = λ right. absurd (wrong right); wrong = λ again. (number, kept) }

pub besides_unique : {before : List Reason} {l : List (ℕ × Wanted)} {r q : ℕ} {T U K L X : Type 0} → (T → U → (r ≡ q) × X) → (K → L → X)
    → Besides before l r T K → Besides before l q U L → (r ≡ q) × X
besides_unique {l = l} done kept b c = elim (right_lengths? l) [
  | yes right ↦ done (b.right right) (c.right right)
  | no wrong ↦
      let (r, x) = b.wrong wrong in
      let (q, y) = c.wrong wrong in
      (r ∙ sym q, kept x y)
]

sizes_number : {S : Type 0} (d : Dec S) (sized : Bool) (l : List (ℕ × Wanted)) → Says sized S → ¬ RightLengths l
    → cond sized 2 1 ≡ given (first_of (outside S d ∷ wrong_length l ∷ []))
sizes_number d true l says wrong = ap given (sym (first_skip _ _ (λ out. out (says.0 refl)) ∙ first_take _ _ wrong))
sizes_number d false l says wrong = ap given (sym (first_take _ _ (denied says refl)))

pub besides_sizes : {S : Type 0} (d : Dec S) {sized : Bool} {l : List (ℕ × Wanted)} {r : ℕ} {T K : Type 0} → Says sized S → ¬ RightLengths l → r ≡ cond sized 2 1 → K
    → Besides (outside S d ∷ []) l r T K
besides_sizes d {sized} {l} says wrong e kept = besides_wrong wrong (e ∙ sizes_number d sized l says wrong) kept

module _ {before : List Reason} {T : Result Unit Refusal → Type 0} {K : Type 0} {l x : List ℕ} {r : ℕ} where
  pub answers_as_wrong : ¬ (length l ≡ 3) → r ≡ given (first_of (before ++ (wrong_length ((length l, exactly 3) ∷ []) ∷ []))) → K → x ≡ l → AnswersAs before T K l x r
  answers_as_wrong not number kept left = record { tool = besides_wrong (λ right. not right.0) number (kept, left) }

pub answers_as_sizes : {S : Type 0} (d : Dec S) {sized : Bool} {T : Result Unit Refusal → Type 0} {K : Type 0} {l x : List ℕ} {r : ℕ}
    → Says sized S → ¬ (length l ≡ 3) → r ≡ cond sized 2 1 → K → x ≡ l → AnswersAs (outside S d ∷ []) T K l x r
answers_as_sizes d says not e kept left = record { tool = besides_sizes d says (λ right. not right.0) e (kept, left) }

pub answers_as_unique : {before : List Reason} {T U : Result Unit Refusal → Type 0} {K L X : Type 0} {l x y : List ℕ} {r q : ℕ}
    → ((a b : Result Unit Refusal) → T a → U b → (a ≡ b) × X) → (K → L → X) → AnswersAs before T K l x r → AnswersAs before U L l y q → (r ≡ q) × ((x ≡ y) × X)
answers_as_unique {l = l} one kept f g =
    besides_unique
    (λ (a, t, r, x) (b, u, q, y).
    let (same, other) = one a b t u in
    (r ∙ ap (λ (c : Result Unit Refusal). given (said c)) same ∙ sym q, (x ∙ ap (λ (c : Result Unit Refusal). named (said c) l) same ∙ sym y, other)))
    (λ (k, x) (j, y). (x ∙ sym y, kept k j))
    f.tool
    g.tool
