-- It goes down the table of 1, 2 and 10.
use Rattle.std.proofs.Common.{ℕ, ◌≡◌, [], ◌∷◌, Err, sym, ap, ◌∙◌}
use Rattle.std.proofs.lemmas.Result.{err_from_is_err_and}
use Rattle.kinds.specs.Edition.{edition1, Sized}
use Rattle.kinds.specs.First.{first_of}
use Rattle.kinds.specs.Frame.{ticks}
use Rattle.kinds.specs.Lengths.{RightLengths}
use Rattle.kinds.specs.Reasons.{wrong_length}
use Rattle.kinds.specs.declared.sizes.Sizes.{Sizes}
use Rattle.kinds.proofs.TruthLaws.{denied}
use Rattle.kinds.proofs.FirstLaws.{first_nil, first_take, first_skip}
use Rattle.state.specs.Table.{impossible}
use Rattle.state.specs.States.{Possible}
use Rattle.state.specs.declared.State.{State}
use Rattle.lent.specs.Lent.{run_lengths, call_table}
use Rattle.lent.specs.declared.Lengths.{Lengths}
use Rattle.lent.proofs.check.Goals as goal

module _ (n k : ℕ) (st : State) (l : Lengths) (s : Sizes) (is : (s.n ≡ n) × (s.k ≡ k)) where
  past_1 : first_of (call_table edition1 n k st l) ≡ first_of (wrong_length (run_lengths n k l) ∷ impossible (ticks n k) st ∷ [])
  past_1 = let sized : Sized edition1 n k = rw (is.0, is.1) at s.sized in first_skip _ _ (λ outside. outside sized)

  past_2 : RightLengths (run_lengths n k l) → first_of (call_table edition1 n k st l) ≡ first_of (impossible (ticks n k) st ∷ [])
  past_2 right = past_1 ∙ first_skip _ _ (λ wrong. wrong right)

pub returns-in_err-sizes-clause-answer : goal.returns-in_err-sizes-clause-answer
returns-in_err-sizes-clause-answer c =
    let p = err_from_is_err_and c.from_residual.result c.from_residual.ensures.1 in
    let e = c.in_err-sizes.ensures in
    rw (p.1, p.2, e.no_other) (sym (first_take _ _ (e.refused.0 (ap Err e.no_other))))

pub returns-then-not-lengths_fit-clause-answer : goal.returns-then-not-lengths_fit-clause-answer
returns-then-not-lengths_fit-clause-answer c =
    let x = c.args in
    sym (past_1 x.n x.k x.state x.lengths c.in_ok-sizes.sizes c.in_ok-sizes.ensures.sizes ∙ first_take _ _ (denied c.lengths_fit.ensures c.if-not-lengths_fit.true))

pub returns-then-not-possible-clause-answer : goal.returns-then-not-possible-clause-answer
returns-then-not-possible-clause-answer c =
    let x = c.args in
    let is = c.in_ok-sizes.ensures.sizes in
    sym (past_2 x.n x.k x.state x.lengths c.in_ok-sizes.sizes is (c.lengths_fit.ensures.0 c.if-not-lengths_fit.false)
    ∙ first_take _ _ (rw (c.ticks.ensures, is.0, is.1) at (denied c.possible.ensures c.if-not-possible.true)))

pub returns-clause-answer : goal.returns-clause-answer
returns-clause-answer c =
    let x = c.args in
    let is = c.in_ok-sizes.ensures.sizes in
    let possible : Possible (ticks x.n x.k) x.state = rw (c.ticks.ensures, is.0, is.1) at (c.possible.ensures.0 c.if-not-possible.false) in
    sym (past_2 x.n x.k x.state x.lengths c.in_ok-sizes.sizes is (c.lengths_fit.ensures.0 c.if-not-lengths_fit.false)
    ∙ first_skip _ _ (λ not. not possible) ∙ first_nil)
