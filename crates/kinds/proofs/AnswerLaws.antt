-- Answers, and what they leave.
--   done_none         an answer that is done gives no refusal
--   none_done         one that gives none is done
--   not_both          no answer is done and a refusal
--   said_same         of answers with no value, those that say the same are the same
--   said_before       what an answer refuses by a table, it refuses by that table with another after it
--   one_length        a comparison of one lent length says whether it is right
--   some_lengths      either bool says of some lengths whether they are right
--   checks_said       two right answers of a check give the same refusal, or none
--   checks_unique     so a check with no value has one right answer
--   sizes_unique      nor has one that gives sizes another
--   refused_by        how a refusal meets `Answers`: it is the table's, and everything is as it came
--   done_by           how no refusal meets it: the table gives none, and what is to hold does
--   refuses, does     the same of a `Result`
--   answers_done      where no reason applies, a tool has done its work
--   answers_kept      where one does, it has left everything as it came
--   answers_same      two right answers give the same refusal, or none
--   answers_agree     so two tools with one table were both done, or were both refused
use mathlib.Core.Path.{◌≡◌, refl, sym, ap, subst, ◌∙◌}
use Rattle.std.proofs.Props.{props}
use mathlib.Core.Bool.{Bool, true, false}
use mathlib.Core.List.{List, [], ◌∷◌, ◌++◌}
use mathlib.Core.Logic.{◌≢◌}
use mathlib.Core.Option.{Option, none, some}
use Prim.Native.Nat.{ℕ}
use Rattle.std.specs.Prelude.{Result, Ok, Err, IsOk}
use native.Mathlib.Omega.{arith}
use borrow.Author.Tests.{eqb-true, eq-eqb}
use lib.Dec.{eqb}
use Rattle.kinds.specs.Edition.{edition1, Sized}
use Rattle.kinds.specs.Refusal.{said}
use Rattle.kinds.specs.First.{Reason, first_of}
use Rattle.kinds.specs.Lengths.{Wanted, exactly, RightLengths}
use Rattle.kinds.specs.Answers.{Says, Checks, Answers}
use Rattle.kinds.specs.Sizes.{AreSizes}
use Rattle.kinds.specs.declared.Refusal.{Refusal}
use Rattle.kinds.specs.declared.sizes.Sizes.{Sizes}
use Rattle.kinds.proofs.TruthLaws.{says_no, says_yes}
use Rattle.kinds.proofs.FirstLaws.{none_some, first_before}

pub done_none : {A : Type 0} (r : Result A Refusal) → IsOk r → said r ≡ none
done_none (Ok x) h = refl
done_none (Err e) h = cc

pub none_done : {A : Type 0} (r : Result A Refusal) → said r ≡ none → IsOk r
none_done (Ok x) h = refl
none_done (Err e) h = none_some (sym h)

pub not_both : {A B : Type 0} {r : Result B Refusal} {x : Refusal} → IsOk r → r ≡ Err x → A
not_both {r = r} d e = none_some (sym (done_none r d) ∙ ap said e)

pub said_same : (a b : Result Unit Refusal) → said a ≡ said b → a ≡ b
said_same (Ok x) (Ok y) e = refl
said_same (Ok x) (Err y) e = none_some e
said_same (Err x) (Ok y) e = none_some (sym e)
said_same (Err x) (Err y) e = cc

pub said_before : {A : Type 0} (s t : List Reason) (r : Result A Refusal) → ¬ IsOk r → said r ≡ first_of s → said r ≡ first_of (s ++ t)
said_before s t (Ok x) refuses e = absurd (refuses refl)
said_before s t (Err x) refuses e = sym (first_before s t (sym e))

pub one_length : (lent right : ℕ) → Says (eqb lent right) (RightLengths ((lent, exactly right) ∷ []))
one_length lent right = (λ e. (eqb-true lent right e, tt), λ same. eq-eqb lent right same.0)

pub some_lengths : (fits : Bool) → (others : List (ℕ × Wanted)) × Says fits (RightLengths others)
some_lengths true = ([], says_yes tt)
some_lengths false = ((0, exactly 1) ∷ [], says_no (λ right. omega (arith, right.0)))

pub checks_said : {A B : Type 0} (t : List (ℕ × Wanted) → List Reason) (fits : Bool) (r : Result A Refusal) (s : Result B Refusal) → Checks t fits r → Checks t fits s → said r ≡ said s
checks_said t fits r s p q = let (others, says) = some_lengths fits in p others says ∙ sym (q others says)

pub checks_unique : (t : List (ℕ × Wanted) → List Reason) (fits : Bool) (r s : Result Unit Refusal) → Checks t fits r → Checks t fits s → r ≡ s
checks_unique t fits r s p q = said_same r s (checks_said t fits r s p q)

abbrev sizes_of : (n k : ℕ) → Sized edition1 n k → Sizes
sizes_of n k sized = record { n = n; k = k; sized = sized }

one_proof : (n k : ℕ) → IsProp (Sized edition1 n k)
one_proof n k = Prim.hlevel props

one_sizes : (n k m l : ℕ) (p : Sized edition1 n k) (q : Sized edition1 m l) → n ≡ m → k ≡ l → sizes_of n k p ≡ sizes_of m l q
one_sizes n k m l p q e f =
    subst (λ (x : ℕ). (s : Sized edition1 x l) → sizes_of n k p ≡ sizes_of x l s) e
    (subst (λ (y : ℕ). (s : Sized edition1 n y) → sizes_of n k p ≡ sizes_of n y s) f (λ s. ap (sizes_of n k) (one_proof n k p s))) q

same_sizes : (n k : ℕ) (r s : Result Sizes Refusal) → said r ≡ said s → AreSizes n k r → AreSizes n k s → r ≡ s
same_sizes n k (Ok a) (Ok b) e is its = ap Ok (one_sizes a.n a.k b.n b.k a.sized b.sized (is.0 ∙ sym its.0) (is.1 ∙ sym its.1))
same_sizes n k (Ok a) (Err x) e is its = none_some e
same_sizes n k (Err x) (Ok b) e is its = none_some (sym e)
same_sizes n k (Err x) (Err y) e is its = cc

pub sizes_unique : (t : List (ℕ × Wanted) → List Reason) (fits : Bool) (n k : ℕ) (r s : Result Sizes Refusal) → Checks t fits r → AreSizes n k r → Checks t fits s → AreSizes n k s → r ≡ s
sizes_unique t fits n k r s p is q its = same_sizes n k r s (checks_said t fits r s p q) is its

module _ {t : List Reason} {D K : Type 0} where
  pub refused_by : {x : Refusal} → first_of t ≡ some x → K → Answers t (some x) D K
  refused_by l k = record { is_first = sym l; done = λ e. none_some (sym e); refused = λ x e. k }

  pub done_by : first_of t ≡ none → D → Answers t none D K
  done_by l d = record { is_first = sym l; done = λ _. d; refused = λ x e. none_some e }

  pub refuses : {A : Type 0} (r : Result A Refusal) → ¬ IsOk r → said r ≡ first_of t → K → Answers t (said r) D K
  refuses r n l k = record { is_first = l; done = λ e. absurd (n (none_done r e)); refused = λ x e. k }

  pub does : {A : Type 0} (r : Result A Refusal) → IsOk r → said r ≡ first_of t → D → Answers t (said r) D K
  does r d l leaves = record { is_first = l; done = λ _. leaves; refused = λ x e. none_some (sym (done_none r d) ∙ e) }

  pub answers_done : {A : Type 0} (r : Result A Refusal) → first_of t ≡ none → Answers t (said r) D K → IsOk r
  answers_done r e a = none_done r (a.is_first ∙ e)

  pub answers_kept : {o : Option Refusal} → Answers t o D K → first_of t ≢ none → K
  answers_kept {o = none} a some_applies = absurd (some_applies (sym a.is_first))
  answers_kept {o = some x} a some_applies = a.refused x refl

module _ {t : List Reason} {D K E L : Type 0} {o p : Option Refusal} (a : Answers t o D K) (b : Answers t p E L) where
  pub answers_same : o ≡ p
  answers_same = a.is_first ∙ sym b.is_first

  pub answers_agree : {X : Type 0} → (first_of t ≡ none → D → E → X) → (K → L → X) → X
  answers_agree {X} done kept = go o refl
    where
      go : (q : Option Refusal) → o ≡ q → X
      go none e = done (sym a.is_first ∙ e) (a.done e) (b.done (sym answers_same ∙ e))
      go (some x) e = kept (a.refused x e) (b.refused x (sym answers_same ∙ e))
