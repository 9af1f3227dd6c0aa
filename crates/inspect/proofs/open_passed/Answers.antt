-- What the check and the opening refuse is the lowest of 1 to 5; past them 6 to 9 are judged.
use Rattle.std.proofs.Common.{ℕ, ◌≡◌, ◌++◌, ◌∷◌, [], List, sym, ◌∙◌}
use Rattle.std.specs.Prelude.{true, Ok, Err}
use Rattle.std.proofs.lemmas.Result.{err_from_is_err_and}
use mathlib.Core.Option.{Option, none, some}
use Rattle.kinds.specs.Edition.{edition1, Sized}
use Rattle.kinds.specs.Decisions.{sized?}
use Rattle.kinds.specs.First.{Reason, first_of}
use Rattle.kinds.specs.Lengths.{RightLengths}
use Rattle.kinds.specs.declared.Refusal.{Refusal}
use Rattle.kinds.proofs.TruthLaws.{says_yes}
use Rattle.kinds.proofs.AnswerLaws.{one_length}
use Rattle.kinds.proofs.FirstLaws.{first_none, first_skip, first_append, first_before}
use Rattle.order.specs.Order.{Order}
use Rattle.order.specs.Table.{order_table}
use Rattle.order.proofs.TableLaws.{order_sound}
use Rattle.sheet.specs.Sheet.{write_side, read_side}
use Rattle.sheet.specs.Table.{broken_layout, sheet_lengths}
use Rattle.sheet.proofs.TableLaws.{sheet_sound}
use Rattle.maps.specs.Opened.{Shows, ShowsBoth, Opens}
use Rattle.maps.specs.declared.Sides.{Sides}
use Rattle.realise.specs.Realises.{map_table}
use Rattle.inspect.specs.Tool.{inspect_table}
use Rattle.inspect.proofs.TableLaws.{inspects_by, passed_refused}
use Rattle.inspect.proofs.open_passed.Goals as goal

module _ (n k : ℕ) (C s : List ℕ) where
  abbrev first : List Reason
  first = order_table (Sized edition1 n k) (sized? edition1 n k) n C (sheet_lengths edition1 s)

  refused_first : {x : Refusal} → some x ≡ first_of first → some x ≡ first_of (inspect_table edition1 n k C s)
  refused_first refused = sym (first_before first _ (sym refused))

  -- past the check the columns are an order, and the sheet has its places
  module _ (checked : none ≡ first_of first) where
    sound : Sized edition1 n k × RightLengths (sheet_lengths edition1 s) × Order n C
    sound = (order_sound (sized? edition1 n k) n C (sheet_lengths edition1 s)).0 (sym checked)

    left : (t : List Reason) → first_of (first ++ t) ≡ first_of t
    left t = first_append first t ((first_none first).0 (sym checked))

    refused_next : {x : Refusal} → Opens edition1 n k s true (Err x) → some x ≡ first_of (inspect_table edition1 n k C s)
    refused_next {x} opens =
        let given : some x ≡ first_of (broken_layout edition1 n k s ∷ []) =
        opens.answer [] (says_yes tt) ∙ first_skip _ _ (λ out. out sound.0) ∙ first_skip _ _ (λ wrong. wrong sound.1)
        in
        sym (left _ ∙ first_before (broken_layout edition1 n k s ∷ []) _ (sym given))

    -- past the opening 6 to 9 are judged
    judged : {v : Sides} {o : Option Refusal} → Opens edition1 n k s true (Ok v) → o ≡ first_of (map_table edition1 n k C s) → o ≡ first_of (inspect_table edition1 n k C s)
    judged opens judges =
        let (_, _, keeps) = (sheet_sound edition1 n k s []).0 (sym (opens.answer [] (says_yes tt))) in
        judges ∙ sym (left _ ∙ first_skip _ _ (λ broken. broken keeps))

-- what is judged of an opened sheet holds of the sheet
on_sheet : {n k m l : ℕ} (C : List ℕ) {s : List ℕ} {v : Sides} {o : Option Refusal} → m ≡ n → l ≡ k → ShowsBoth edition1 n k s v
    → ((t : List ℕ) → Shows m l v.write (write_side edition1 m l t) → Shows m l v.read (read_side edition1 m l t) → o ≡ first_of (map_table edition1 m l C t))
    → o ≡ first_of (map_table edition1 n k C s)
on_sheet C {s = s} same_n same_k shown judges = rw (← same_n) (rw (← same_k) (judges s (rw same_n (rw same_k shown.write)) (rw same_n (rw same_k shown.read))))

pub returns-in_err-sizes : goal.returns-in_err-sizes
returns-in_err-sizes c =
    let (_, is, same) = err_from_is_err_and c.from_residual.result c.from_residual.ensures.1 in
    rw is (rw same (passed_refused (refused_first _ _ _ c.args.sheet.now (c.in_err-sizes.ensures.answer (sheet_lengths edition1 c.args.sheet.now) (one_length _ _)))))

pub returns-in_err-sides : goal.returns-in_err-sides
returns-in_err-sides c =
    let (_, is, same) = err_from_is_err_and c.from_residual-in_err-sides.result c.from_residual-in_err-sides.ensures.1 in
    let checked = c.in_ok-sizes.ensures.answer (sheet_lengths edition1 c.args.sheet.now) (one_length _ _) in
    rw is (rw same (passed_refused (refused_next _ _ _ c.args.sheet.now checked c.in_err-sides.ensures)))

pub judge-requires : goal.judge-requires
judge-requires c =
    let checked = c.in_ok-sizes.ensures.answer (sheet_lengths edition1 c.args.sheet.now) (one_length _ _) in
    rw (c.in_ok-sizes.ensures.sizes.0) (record { count = (sound _ _ _ c.args.sheet.now checked).2.count })

pub returns-in_err-judge : goal.returns-in_err-judge
returns-in_err-judge c =
    let (_, is, same) = err_from_is_err_and c.from_residual-in_err-judge.result c.from_residual-in_err-judge.ensures.1 in
    let checked = c.in_ok-sizes.ensures.answer (sheet_lengths edition1 c.args.sheet.now) (one_length _ _) in
    let (same_n, same_k) = c.in_ok-sizes.ensures.sizes in
    rw is (rw same (passed_refused (judged _ _ _ c.args.sheet.now checked c.in_ok-sides.ensures (on_sheet _ same_n same_k c.in_ok-sides.ensures.sides c.in_err-judge.ensures))))

pub returns : goal.returns
returns c =
    let checked = c.in_ok-sizes.ensures.answer (sheet_lengths edition1 c.args.sheet.now) (one_length _ _) in
    let (same_n, same_k) = c.in_ok-sizes.ensures.sizes in
    record {
      answer = inspects_by (Ok c.in_ok-sides.sides) (judged _ _ _ c.args.sheet.now checked c.in_ok-sides.ensures (on_sheet _ same_n same_k c.in_ok-sides.ensures.sides c.in_ok-judge.ensures));
      sides = c.in_ok-sides.ensures.sides;
    }
