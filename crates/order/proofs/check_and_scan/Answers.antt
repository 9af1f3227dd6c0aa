use Rattle.kinds.specs.Edition.{edition1}
use Rattle.kinds.specs.Decisions.{sized_n?}
use Rattle.kinds.proofs.TruthLaws.{denied}
use Rattle.order.proofs.TableLaws.{outside_sizes_law, within_sizes}
use Rattle.order.proofs.check_and_scan.Goals as goal

pub returns-then-not-sized_n : goal.returns-then-not-sized_n
returns-then-not-sized_n c = record {
  answer = outside_sizes_law (sized_n? edition1 c.args.n) _ _ _ (denied c.sized_n.ensures c.if-not-sized_n.true);
  holds = tt;
}

pub returns : goal.returns
returns c = record {
  answer = within_sizes (sized_n? edition1 c.args.n) _ _ _ _ (c.sized_n.ensures.0 c.if-not-sized_n.false) c.check_columns.ensures.answer;
  holds = c.check_columns.ensures.holds;
}
