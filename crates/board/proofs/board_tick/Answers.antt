-- A state, or a buffer for what a refusal names, that has another length than three is refused with 2, or with 1.
use Rattle.std.proofs.Common.{refl}
use Rattle.kinds.specs.Edition.{edition1}
use Rattle.kinds.specs.Decisions.{sized?}
use Rattle.told.proofs.BesidesLaws.{besides_sizes}
use Rattle.board.proofs.board_tick.Goals as goal
use Rattle.board.proofs.board_tick.Goals.{then-state-ne3-via-then-state-ne3, then-state-ne3-via-else-state-ne3+then-said-ne3}

pub returns-then-state-ne3 : goal.returns-then-state-ne3
returns-then-state-ne3 c = record {
  tool =
      besides_sizes (sized? edition1 c.args.n c.args.k) c.sized.ensures
      (λ right. elim c.then-state-ne3.branch [
        | then-state-ne3-via-then-state-ne3 w ↦ w.if-state-ne3.true right.0
        | then-state-ne3-via-else-state-ne3+then-said-ne3 w ↦ w.if-said-ne3.true right.1.0
      ])
      c.wrong_length.ensures refl;
}
