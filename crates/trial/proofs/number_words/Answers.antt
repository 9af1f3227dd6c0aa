use Rattle.std.proofs.Common.{arith}
use Rattle.kinds.proofs.FrameLaws.{in_order_is}
use Rattle.trial.proofs.number_words.Goals as goal

pub returns : goal.returns
returns c = in_order_is _ (λ q. q) 0 c.loop-i.frame (omega arith) (λ q l. c.loop-i.invariant q (omega arith))
