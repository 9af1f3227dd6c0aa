use Rattle.std.proofs.Common.{length-set, arith, ◌∙◌}
use Rattle.few.proofs.FewLaws.{one_more}
use Rattle.few.proofs.Few.add.Goals as goal

pub invariant_of-self : goal.invariant_of-self
invariant_of-self g c =
    let inside = c.self.inside in (
      omega arith,
      one_more g.row.N inside.len inside.places g.T.Blank.blank c.args.item c.if-self.true c.self.invariant.2 c.self.invariant.1,
      length-set inside.places inside.len c.args.item ∙ c.self.invariant.2,
    )
