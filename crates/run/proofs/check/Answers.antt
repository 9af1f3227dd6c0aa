-- Where the sheet is opened nothing is left but 10; else its refusal is handed on.
use Rattle.std.proofs.Common.{ℕ, ◌-◌, ◌≡◌, Bool, List, [], ◌∷◌, ◌++◌, Result, IsOk, Ok, Err, refl, sym, ◌∙◌, arith}
use mathlib.Core.Option.{none}
use Rattle.kinds.specs.Answers.{Says}
use Rattle.kinds.specs.Edition.{edition1, Sized}
use Rattle.kinds.specs.Frame.{ticks}
use Rattle.kinds.specs.First.{Reason, first_of}
use Rattle.kinds.specs.Lengths.{RightLengths}
use Rattle.kinds.specs.declared.Refusal.{Refusal}
use Rattle.kinds.specs.declared.Refusal.TheVariants.{State as Impossible}
use Rattle.kinds.proofs.TruthLaws.{denied}
use Rattle.kinds.proofs.FirstLaws.{first_nil, first_take, first_skip, first_append, first_before, first_none}
use Rattle.bits.specs.Word.{TwoTo}
use Rattle.sheet.specs.Table.{sheet_table}
use Rattle.sheet.proofs.TableLaws.{sheet_sound}
use Rattle.maps.specs.Opened.{Opens}
use Rattle.maps.specs.declared.Sides.{Sides}
use Rattle.state.specs.States.{Possible}
use Rattle.state.specs.Table.{impossible}
use Rattle.state.specs.declared.State.{State}
use Rattle.lent.specs.Lent.{run_lengths}
use Rattle.lent.specs.declared.Lengths.{Lengths}
use Rattle.run.specs.Tool.{ChecksRun}
use Rattle.run.proofs.check.Goals.{else-is_ok-via-then-is_ok+else-not-possible, else-is_ok-via-else-is_ok}
use Rattle.run.proofs.check.Goals as goal

module _ (n k : ℕ) (s : List ℕ) (st : State) (l : Lengths) {fits : Bool} (right : Says fits (RightLengths (run_lengths n k l))) where
  abbrev table : List Reason
  table = sheet_table edition1 n k s (run_lengths n k l)

  checks_refused : {x : Refusal} → Opens edition1 n k s fits (Err x) → ChecksRun edition1 n k s st l (Err x)
  checks_refused opens = record { answer = sym (first_before table _ (sym (opens.answer (run_lengths n k l) right))); sides = tt }

  module _ {o : Sides} (opens : Opens edition1 n k s fits (Ok o)) where
    none_given : first_of table ≡ none
    none_given = sym (opens.answer (run_lengths n k l) right)

    sized : Sized edition1 n k
    sized = ((sheet_sound edition1 n k s (run_lengths n k l)).0 none_given).0

    left : first_of (table ++ impossible (ticks n k) st ∷ []) ≡ first_of (impossible (ticks n k) st ∷ [])
    left = first_append table _ ((first_none table).0 none_given)

    frame_ticks : {T : ℕ} → TwoTo (n - k) T → T ≡ ticks n k
    frame_ticks t = t.fits (omega (arith, sized.frame.most))

    checks_impossible : ¬ Possible (ticks n k) st → ChecksRun edition1 n k s st l (Err Impossible)
    checks_impossible not = record { answer = sym (left ∙ first_take _ _ not); sides = tt }

    checks_done : Possible (ticks n k) st → ChecksRun edition1 n k s st l (Ok o)
    checks_done possible = record { answer = sym (left ∙ first_skip _ _ (λ not. not possible) ∙ first_nil); sides = opens.sides }

  refuses_state : {T : ℕ} → TwoTo (n - k) T → (r : Result Sides Refusal) → Opens edition1 n k s fits r → IsOk r → ¬ Possible T st → ChecksRun edition1 n k s st l (Err Impossible)
  refuses_state two (Ok o) opens ok not = checks_impossible opens (rw (frame_ticks opens two) at not)
  refuses_state two (Err x) opens ok not = cc

  hands_on : (r : Result Sides Refusal) → Opens edition1 n k s fits r → (IsOk r → (T : ℕ) × TwoTo (n - k) T × Possible T st) → ChecksRun edition1 n k s st l r
  hands_on (Ok o) opens possible = let (T, two, is) = possible refl in checks_done opens (rw (frame_ticks opens two) at is)
  hands_on (Err x) opens possible = checks_refused opens

pub returns-then-not-possible : goal.returns-then-not-possible
returns-then-not-possible c =
    let x = c.args in
    refuses_state x.n x.k x.sheet.now x.state x.lengths c.lengths_fit-fits.ensures c.two_to.ensures c.open-opened.result c.open-opened.ensures
    (sym c.is_ok.ensures.value ∙ c.if-is_ok.true) (denied c.possible.ensures c.if-not-possible.true)

pub returns : goal.returns
returns c =
    let x = c.args in
    hands_on x.n x.k x.sheet.now x.state x.lengths c.lengths_fit-fits.ensures c.open-opened.result c.open-opened.ensures
    (λ ok. elim c.else-is_ok.branch [
      | else-is_ok-via-then-is_ok+else-not-possible w ↦ (_, w.two_to.ensures, w.possible.ensures.0 w.if-not-possible.false)
      | else-is_ok-via-else-is_ok w ↦ cc (ok, c.is_ok.ensures.value, w.if-is_ok.false)
    ])
