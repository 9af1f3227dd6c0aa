-- Which refusal a tool gives, said once for every tool. A tool's table is a list of reasons to refuse, and of those that apply the first of the list is given.
-- "Of a tool's numbers the lowest that applies is given" (01): so it is where the numbers of the table go up.
--   Reason                   a refusal, the statement that makes it apply, in 01's words, and a decision of that statement
--   unless r A d             the reason that refuses with r unless the statement A holds, which d decides
--   or_else d r o             the refusal r if d says that it applies, else o
--   first_of t                the refusal of the first reason of t that applies; none where none does
--   EachReason Q t           every reason of t has Q
--   AnyReason Q t            some reason of t has Q
--   FirstThatApplies t x     x is the refusal of a reason of t that applies, and none before that one does
--   Ascending t              the numbers of t go up
--   LowestThatApplies t x    x is the refusal of a reason of t that applies, and none that applies has a lower number
use Rattle.std.specs.Prelude.{◌<◌, ◌≤◌, ◌≡◌, List, [], ◌∷◌, ◌⊎◌}
use Rattle.std.proofs.Math.Option.{Option, none, some}
use Rattle.kinds.specs.Decided.{opposite}
use Rattle.kinds.specs.Refusal.{number_of}
use Rattle.kinds.specs.declared.Refusal.{Refusal}

pub record Reason : Type 1 where
  pub refusal : Refusal
  pub applies : Type 0
  pub decided : Dec applies

abbrev pub unless : Refusal → (A : Type 0) → Dec A → Reason
unless r A d = record { refusal = r; applies = ¬ A; decided = opposite d }

abbrev pub or_else : {A : Type 0} → Dec A → Refusal → Option Refusal → Option Refusal
or_else (yes a) r o = some r
or_else (no n) r o = o

unfoldable pub first_of : List Reason → Option Refusal
first_of [] = none
first_of (r ∷ rs) = or_else r.decided r.refusal (first_of rs)

abbrev pub EachReason : (Reason → Type 0) → List Reason → Type 0
EachReason Q [] = Unit
EachReason Q (r ∷ rs) = Q r × EachReason Q rs

abbrev pub AnyReason : (Reason → Type 0) → List Reason → Type 0
AnyReason Q [] = ⊥
AnyReason Q (r ∷ rs) = Q r ⊎ AnyReason Q rs

abbrev pub FirstThatApplies : List Reason → Refusal → Type 0
FirstThatApplies [] x = ⊥
FirstThatApplies (r ∷ rs) x = (r.applies × (r.refusal ≡ x)) ⊎ ((¬ r.applies) × FirstThatApplies rs x)

abbrev pub Ascending : List Reason → Type 0
Ascending [] = Unit
Ascending (r ∷ rs) = EachReason (λ s. number_of r.refusal < number_of s.refusal) rs × Ascending rs

pub record LowestThatApplies (t : List Reason) (x : Refusal) : Type 0 where
  pub applies : AnyReason (λ r. r.applies × (r.refusal ≡ x)) t
  pub nothing_lower : EachReason (λ r. r.applies → number_of x ≤ number_of r.refusal) t
