-- Past the check the columns are an order, and the sheet and the frame have their places; so the planner plans, and what the run hands out is the words in lamp order.
use Rattle.std.proofs.Common.{ℕ, ◌≡◌, ◌≤◌, ◌^◌, List, [], ◌∷◌, ◌++◌, length, sym, ap, ◌∙◌, arith, pow_mono, Result, Err}
use mathlib.Core.Option.{none}
use Rattle.kinds.specs.Edition.{edition1, Sized}
use Rattle.kinds.specs.Decisions.{sized?}
use Rattle.kinds.specs.Frame.{in_order}
use Rattle.kinds.specs.First.{first_of}
use Rattle.kinds.specs.Lengths.{Wanted, exactly, RightLengths}
use Rattle.kinds.specs.declared.Refusal.{Refusal}
use Rattle.kinds.proofs.AnswerLaws.{done_by}
use Rattle.order.specs.Order.{Order}
use Rattle.order.proofs.TableLaws.{order_sound}
use Rattle.sheet.specs.Table.{sheet_lengths}
use Rattle.construction.specs.Planned.{IsPlanned}
use Rattle.plan.specs.Tool.{Plans}
use Rattle.plan.proofs.ToolLaws.{plans_done}
use Rattle.trial.specs.Trial.{trial_table, IsTried}
use Rattle.trial.specs.Inside.{frame_handed, Numbered, Runnable}
use Rattle.trial.proofs.CallLaws.{tick_leaves, handed_lamp}
use Rattle.trial.proofs.trial.Goals as goal

abbrev lengths : ℕ → List ℕ → List ℕ → List (ℕ × Wanted)
lengths n sheet frame = sheet_lengths edition1 sheet ++ (length frame, exactly (2 ^ n)) ∷ []

-- past the check
record Past (n k : ℕ) (C sheet frame : List ℕ) : Type 0 where
  sized : Sized edition1 n k
  right : RightLengths (lengths n sheet frame)
  order : Order n C

past : (n k : ℕ) (C sheet frame : List ℕ) → none ≡ first_of (trial_table edition1 n k C sheet frame) → Past n k C sheet frame
past n k C sheet frame passed =
    let (sized, right, order) = (order_sound (sized? edition1 n k) n C (lengths n sheet frame)).0 (sym passed) in record { sized = sized; right = right; order = order }

module _ {n k : ℕ} {C sheet frame : List ℕ} (it : Past n k C sheet frame) where
  count : length frame ≡ 2 ^ n
  count = it.right.1.0

  few : length frame ≤ 2 ^ 32
  few = omega (arith, count, pow_mono {i = n} {j = 10} it.sized.frame.most)

  -- the order is planned
  module _ {written : List ℕ} where
    never_refused : {x : Refusal} {A : Type 0} → Plans edition1 n k C sheet written (Err x) → A
    never_refused {x} plans = let (done, ok) = plans_done edition1 n k C sheet it.sized it.order it.right.0 written (Err x) plans in cc

    module _ (r : Result Unit Refusal) (plans : Plans edition1 n k C sheet written r) where
      planned : IsPlanned edition1 n k C written
      planned = (plans_done edition1 n k C sheet it.sized it.order it.right.0 written r plans).1

      abbrev run : Runnable n k written
      run = record { sized = it.sized; columns = C; order = it.order; planned = planned }

      numbered : {f : List ℕ} {m : ℕ} → f ≡ in_order m (λ i. i) → m ≡ length frame → Numbered n k written f
      numbered words same = record { runnable = run; words = words ∙ ap (λ (m : ℕ). in_order m (λ i. i)) (same ∙ count) }

      tried : {f : List ℕ} → f ≡ frame_handed n k written → IsTried edition1 n k C written f
      tried handed =
          let lamps = handed ∙ handed_lamp run in
          record { planned = planned; frame = lamps; run = λ c h. rw lamps (sym (tick_leaves run h)) }

pub returns-in_err-plan : goal.returns-in_err-plan
returns-in_err-plan c =
    let says = c.in_ok-sizes.ensures.answer (lengths c.args.n c.args.sheet.now c.args.frame.now) c.lent_right-fits.ensures in
    never_refused (past _ _ _ c.args.sheet.now c.args.frame.now says) c.in_err-plan.ensures

pub number_words-requires : goal.number_words-requires
number_words-requires c =
    let says = c.in_ok-sizes.ensures.answer (lengths c.args.n c.args.sheet.now c.args.frame.now) c.lent_right-fits.ensures in
    omega (arith, few (past _ _ _ c.args.sheet.now c.args.frame.now says))

pub run_frame-requires : goal.run_frame-requires
run_frame-requires c =
    let says = c.in_ok-sizes.ensures.answer (lengths c.args.n c.args.sheet.now c.args.frame.now) c.lent_right-fits.ensures in
    let it = past _ _ _ c.args.sheet.now c.args.frame.now says in
    rw (c.in_ok-sizes.ensures.sizes.0) (rw (c.in_ok-sizes.ensures.sizes.1) (numbered it _ c.plan.ensures c.number_words.ensures (omega arith)))

pub returns : goal.returns
returns c =
    let says = c.in_ok-sizes.ensures.answer (lengths c.args.n c.args.sheet.now c.args.frame.now) c.lent_right-fits.ensures in
    let it = past _ _ _ c.args.sheet.now c.args.frame.now says in
    let at_n = rw (c.in_ok-sizes.ensures.sizes.0) at c.run_frame.ensures in
    let handed = rw (c.in_ok-sizes.ensures.sizes.1) at at_n in
    done_by (sym says) (tried it _ c.plan.ensures handed)
