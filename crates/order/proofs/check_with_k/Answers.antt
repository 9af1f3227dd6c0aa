use Rattle.std.proofs.Common.{ℕ, ◌≡◌, Err, ap}
use Rattle.std.proofs.lemmas.Result.{err_from_is_err_and}
use Rattle.kinds.specs.Edition.{edition1, Sized}
use Rattle.kinds.specs.Decisions.{sized?}
use Rattle.kinds.specs.declared.sizes.Sizes.{Sizes}
use Rattle.order.proofs.TableLaws.{outside_sizes_law, within_sizes}
use Rattle.order.proofs.check_with_k.Goals as goal

within : {n k : ℕ} (s : Sizes) → (s.n ≡ n) × (s.k ≡ k) → Sized edition1 n k
within s (same_n, same_k) = rw (← same_n) (rw (← same_k) s.sized)

pub returns-in_err-sizes-clause-answer : goal.returns-in_err-sizes-clause-answer
returns-in_err-sizes-clause-answer c =
    let (_, is, same) = err_from_is_err_and c.from_residual.result c.from_residual.ensures.1 in
    let sizes = c.in_err-sizes.ensures.no_other in
    rw (is, same, sizes) (outside_sizes_law (sized? edition1 c.args.n c.args.k) _ _ _ (c.in_err-sizes.ensures.refused.0 (ap Err sizes)))

pub returns-in_err-check_columns-clause-answer : goal.returns-in_err-check_columns-clause-answer
returns-in_err-check_columns-clause-answer c =
    let (_, is, same) = err_from_is_err_and c.from_residual-in_err-check_columns.result c.from_residual-in_err-check_columns.ensures.1 in
    rw (is, same) (within_sizes (sized? edition1 c.args.n c.args.k) _ _ _ _ (within c.in_ok-sizes.sizes c.in_ok-sizes.ensures.sizes) c.in_err-check_columns.ensures.answer)

pub returns-clause-answer : goal.returns-clause-answer
returns-clause-answer c =
    within_sizes (sized? edition1 c.args.n c.args.k) _ _ _ _ (within c.in_ok-sizes.sizes c.in_ok-sizes.ensures.sizes) c.in_ok-check_columns.ensures.answer
