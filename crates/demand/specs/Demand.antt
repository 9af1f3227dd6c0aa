-- The third demand, of any answers that meet the contracts of the inspector and the planner.
--   DemandFor e n k C     the demand of one order C: its first sentence is `exact`, with `verdict`, that there is an answer for every sheet; its second is `gets`, `passes` and `fewest`.
--                         lent is the sheet as the planner is lent it, with its places; s is what it holds afterwards
--   ThirdDemand e         "The inspector passes a well-formed sheet for an order exactly when, from a fresh start, over every series of frames and blank ticks and every content of the words, no two written words
--                         and no two read words want one bank in a tick, no unread word is overwritten, no empty cell is read, and each word of a completed frame leaves at its due tick and place.
--                         Every invertible order within the limits gets a planned sheet that passes, and no passed sheet for that order has fewer read stages."
use Rattle.std.specs.Prelude.{ℕ, ◌≤◌, ◌≡◌, List, ◌↔◌, length, Result, Ok, IsOk}
use Rattle.kinds.specs.declared.Refusal.{Refusal}
use Rattle.kinds.specs.Edition.{Edition, Sized, sheet_places}
use Rattle.order.specs.Order.{Order}
use Rattle.sheet.specs.Sheet.{read_side}
use Rattle.sheet.specs.Layout.{WellFormed}
use Rattle.promise.specs.Right.{Right}
use Rattle.plan.specs.Tool.{Plans}
use Rattle.inspect.specs.Tool.{Inspects}

pub record DemandFor (e : Edition) (n k : ℕ) (C : List ℕ) : Type 0 where
  pub verdict : (s : List ℕ) → (v : Result Unit Refusal) × Inspects e n k C s v
  pub exact : (s : List ℕ) (v : Result Unit Refusal) → length s ≡ sheet_places e → WellFormed e n k s → Inspects e n k C s v → IsOk v ↔ Right e n k C s
  pub gets : (lent : List ℕ) → length lent ≡ sheet_places e → (s : List ℕ) × Plans e n k C lent s (Ok tt) × Inspects {A = Unit} e n k C s (Ok tt)
  pub passes : (lent s : List ℕ) (r v : Result Unit Refusal) → length lent ≡ sheet_places e → Plans e n k C lent s r → Inspects e n k C s v → IsOk r × IsOk v
  pub fewest : (lent s other : List ℕ) (r : Result Unit Refusal) → length lent ≡ sheet_places e → Plans e n k C lent s r → Inspects {A = Unit} e n k C other (Ok tt)
      → length (read_side e n k s).stages ≤ length (read_side e n k other).stages

abbrev pub ThirdDemand : Edition → Type 0
ThirdDemand e = (n k : ℕ) (C : List ℕ) → Sized e n k → Order n C → DemandFor e n k C
