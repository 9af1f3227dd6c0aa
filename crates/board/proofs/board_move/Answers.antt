-- A buffer for what a refusal names that has another length than three is refused with 2, or with 1.
use Rattle.std.proofs.Common.{refl}
use Rattle.kinds.specs.Edition.{edition1}
use Rattle.kinds.specs.Decisions.{sized_n?}
use Rattle.told.proofs.BesidesLaws.{answers_as_sizes}
use Rattle.board.proofs.board_move.Goals as goal

pub returns-then-said-ne3 : goal.returns-then-said-ne3
returns-then-said-ne3 c = answers_as_sizes (sized_n? edition1 c.args.n) c.sized_n.ensures c.if-said-ne3.true c.wrong_length.ensures refl refl
