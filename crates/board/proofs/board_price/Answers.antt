-- Sums that have another length than three are refused with 2, or with 1.
use Rattle.std.proofs.Common.{refl}
use Rattle.kinds.specs.Edition.{edition1}
use Rattle.kinds.specs.Decisions.{sized?}
use Rattle.told.proofs.BesidesLaws.{besides_sizes}
use Rattle.board.proofs.board_price.Goals as goal

pub returns-then-sums-ne3 : goal.returns-then-sums-ne3
returns-then-sums-ne3 c = record { tool = besides_sizes (sized? edition1 c.args.n c.args.k) c.sized.ensures (λ right. c.if-sums-ne3.true right.0) c.wrong_length.ensures refl }
