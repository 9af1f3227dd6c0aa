-- A bool that says whether a statement holds, and statements that are decided.
--   false≢true      anything follows from it
--   stable          a decided statement holds if it can't fail
--   holds_yes, holds_no      what is taken where a decided statement holds, and where it doesn't
--   says_no         false says whether a statement holds that does not
--   says_yes        true says whether one holds that does
--   denied          where the bool is false, the statement does not hold
--   says_same       two bools that say it of one statement are equal
--   says_not        the other bool says whether the opposite holds
--   equal_says      comparing two bools says whether they are equal
use Prim.Native.Nat.{ℕ}
use mathlib.Core.Path.{◌≡◌, refl, sym, ◌∙◌}
use mathlib.Core.Bool.{Bool, true, false, not, beq}
use native.Mathlib.Omega.{arith}
use Rattle.kinds.specs.Answers.{if_holds, Says}

pub false≢true : {A : Type 0} → false ≡ true → A
false≢true e = absurd (let z : ◌≡◌ {A = ℕ} 0 1 = cc in omega arith)

pub stable : {A : Type 0} → Dec A → ¬ (¬ A) → A
stable (yes a) n = a
stable (no m) n = absurd (n m)

module _ {P A : Type 0} where
  pub holds_yes : (d : Dec P) (x y : A) → P → if_holds d x y ≡ x
  holds_yes (yes p) x y h = refl
  holds_yes (no n) x y h = absurd (n h)

  pub holds_no : (d : Dec P) (x y : A) → ¬ P → if_holds d x y ≡ y
  holds_no (yes p) x y n = absurd (n p)
  holds_no (no m) x y n = refl

module _ {P : Type 0} where
  pub says_no : ¬ P → Says false P
  says_no n = (λ e. false≢true e, λ p. absurd (n p))

  pub says_yes : P → Says true P
  says_yes p = (λ e. p, λ q. refl)

  pub denied : {b : Bool} → Says b P → b ≡ false → ¬ P
  denied s e p = false≢true (sym e ∙ s.1 p)

  pub says_same : (a b : Bool) → Says a P → Says b P → a ≡ b
  says_same true true p o = refl
  says_same true false p o = sym (o.1 (p.0 refl))
  says_same false true p o = p.1 (o.0 refl)
  says_same false false p o = refl

pub says_not : {P : Type 0} (b : Bool) → Says b P → Says (not b) (¬ P)
says_not true s = says_no (λ n. n (s.0 refl))
says_not false s = says_yes (denied s refl)

pub equal_says : (b c : Bool) → Says (beq b c) (b ≡ c)
equal_says true true = says_yes refl
equal_says true false = says_no (λ e. false≢true (sym e))
equal_says false true = says_no false≢true
equal_says false false = says_yes refl
