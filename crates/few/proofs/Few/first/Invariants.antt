-- What is kept stands, and what comes after it was made blank as far as place i.
use Rattle.few.proofs.FewLaws.{Clearing}
use Rattle.few.proofs.Few.first.Given as goal

abbrev pub invariant-loop-i : goal.invariant-loop-i
invariant-loop-i g l = Clearing l.fn.items l.places g.T.Blank.blank l.count l.i
