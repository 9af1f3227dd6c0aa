-- What follows from the planner's contract alone.
--   plans_unique      it has one answer, and leaves one content
--   plans_with_unique so has the sheet with given read stages
--   plans_done        every order within the sizes is planned, if the lent sheet has its places
--   plans_exist       and the planned sheet is such an answer
-- And what its check tells of the sheet with given read stages:
--   past_check        where the check gives nothing, the columns are an order, and the sheet has its places
--   with_before       where it refuses, so is the sheet refused
--   with_out          else, where a stage is out of its range, the refusal is 5
--   with_in           else the sheet is written
use Prim.Native.Nat.{ℕ, ◌≤◌}
use mathlib.Core.Path.{◌≡◌, sym, ◌∙◌}
use mathlib.Core.List.{List, [], ◌∷◌}
use mathlib.Core.Option.{none, some}
use lib.ListN.{length}
use Rattle.std.specs.Prelude.{Result, Ok, IsOk}
use Rattle.kinds.specs.Edition.{Edition, edition1, Sized, sheet_places}
use Rattle.kinds.specs.Decisions.{sized?}
use Rattle.kinds.specs.First.{first_of}
use Rattle.kinds.specs.Answers.{Answers}
use Rattle.kinds.specs.declared.Refusal.{Refusal}
use Rattle.kinds.specs.declared.Refusal.TheVariants.{Layout}
use Rattle.kinds.proofs.FirstLaws.{first_nil, first_take, first_skip, first_none, first_append, first_before}
use Rattle.kinds.proofs.AnswerLaws.{done_none, said_same, done_by, answers_done, answers_same, answers_agree, refused_by}
use Rattle.order.specs.Order.{Order}
use Rattle.order.proofs.TableLaws.{order_sound}
use Rattle.sheet.specs.declared.Stage.{Stage}
use Rattle.sheet.specs.Table.{sheet_lengths}
use Rattle.construction.specs.Planned.{StagesInRange, planned_sheet, IsPlanned}
use Rattle.plan.specs.Tool.{plan_table, out_of_range, with_table, Plans, PlansWith}
use Rattle.construction.proofs.PlannedLaws.{planned}

module _ (e : Edition) (n k : ℕ) (C s : List ℕ) where
  pub plans_unique : (a b : List ℕ) (r q : Result Unit Refusal) → Plans e n k C s a r → Plans e n k C s b q → (r ≡ q) × (a ≡ b)
  plans_unique a b r q p o = (
    said_same r q (answers_same p o),
    answers_agree p o (λ l u w. u.constructed ∙ sym w.constructed) (λ x y. x ∙ sym y),
  )

  pub plans_with_unique : (ss : List Stage) (a b : List ℕ) (r q : Result Unit Refusal) → PlansWith e n k ss C s a r → PlansWith e n k ss C s b q → (r ≡ q) × (a ≡ b)
  plans_with_unique ss a b r q p o = (
    said_same r q (answers_same p o),
    answers_agree p o (λ l u w. u ∙ sym w) (λ x y. x ∙ sym y),
  )

  module _ (sized : Sized e n k) (order : Order n C) (places : length s ≡ sheet_places e) where
    none_given : first_of (plan_table e n k C s) ≡ none
    none_given = (order_sound (sized? e n k) n C (sheet_lengths e s)).1 (sized, (places, tt), order)

    pub plans_done : (a : List ℕ) (r : Result Unit Refusal) → Plans e n k C s a r → IsOk r × IsPlanned e n k C a
    plans_done a r p = let done : IsOk r = answers_done r none_given p in (done, p.done (done_none r done))

    pub plans_exist : e.most_k ≤ e.most_stages → Plans e n k C s (planned_sheet e n k C) (Ok tt)
    plans_exist room = done_by none_given (planned sized order room)

module _ (n k : ℕ) (C s : List ℕ) where
  pub past_check : none ≡ first_of (plan_table edition1 n k C s) → Order n C × (length s ≡ sheet_places edition1)
  past_check passed = let (sized, right, order) = (order_sound (sized? edition1 n k) n C (sheet_lengths edition1 s)).0 (sym passed) in (order, right.0)

  module _ (ss : List Stage) where
    rest : none ≡ first_of (plan_table edition1 n k C s) → first_of (with_table edition1 n k ss C s) ≡ first_of (out_of_range n k ss ∷ [])
    rest passed = first_append (plan_table edition1 n k C s) (out_of_range n k ss ∷ []) ((first_none (plan_table edition1 n k C s)).0 (sym passed))

    module _ {D K : Type 0} where
      pub with_before : {x : Refusal} → some x ≡ first_of (plan_table edition1 n k C s) → K → Answers (with_table edition1 n k ss C s) (some x) D K
      with_before refused = refused_by (first_before (plan_table edition1 n k C s) (out_of_range n k ss ∷ []) (sym refused))

      pub with_out : none ≡ first_of (plan_table edition1 n k C s) → ¬ StagesInRange n k ss → K → Answers (with_table edition1 n k ss C s) (some Layout) D K
      with_out passed out = refused_by (rest passed ∙ first_take (out_of_range n k ss) [] out)

      pub with_in : none ≡ first_of (plan_table edition1 n k C s) → StagesInRange n k ss → D → Answers (with_table edition1 n k ss C s) none D K
      with_in passed range = done_by (rest passed ∙ first_skip (out_of_range n k ss) [] (λ out. out range) ∙ first_nil)
