-- How a contract speaks of what is answered.
--   Says b A               the bool b says whether A holds
--   Checks t fits r        a check that a tool begins with: r is the first of the table t that applies, for whichever lengths the tool was lent
--                          beside those that the check knows, as long as fits says whether they are right
--   Answers t o D K        a tool's answer, where o is the refusal that it gives, if it gives one: o is the first of the table t that applies;
--                          where that is none, D holds, what the tool is to answer or to leave; on a refusal K, everything lent is as it came
--   over_front l out        the lent buffer out after the numbers l went there, from its first place on; it is long enough for them
--   if_holds d x y          x where the statement that d decides holds, else y
use Rattle.std.specs.Prelude.{ℕ, ◌≡◌, Bool, true, List, ◌++◌, ◌↔◌, length, drop, Result}
use Rattle.std.proofs.Math.Option.{Option, none, some}
use Rattle.kinds.specs.Refusal.{said}
use Rattle.kinds.specs.First.{Reason, first_of}
use Rattle.kinds.specs.Lengths.{Wanted, RightLengths}
use Rattle.kinds.specs.declared.Refusal.{Refusal}

abbrev pub Says : Bool → Type 0 → Type 0
Says b A = (b ≡ true) ↔ A

abbrev pub Checks : {A : Type 0} → (List (ℕ × Wanted) → List Reason) → Bool → Result A Refusal → Type 0
Checks t fits r = (beside : List (ℕ × Wanted)) → Says fits (RightLengths beside) → said r ≡ first_of (t beside)

pub record Answers (t : List Reason) (o : Option Refusal) (D K : Type 0) : Type 0 where
  pub is_first : o ≡ first_of t
  pub done : o ≡ none → D
  pub refused : (x : Refusal) → o ≡ some x → K

abbrev pub over_front : List ℕ → List ℕ → List ℕ
over_front l out = l ++ drop (length l) out

abbrev pub if_holds : {P A : Type 0} → Dec P → A → A → A
if_holds (yes p) x y = x
if_holds (no n) x y = y
