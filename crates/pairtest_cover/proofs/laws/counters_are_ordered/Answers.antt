use Rattle.pairtest_cover.proofs.Leading.{counters_ordered}
use Rattle.pairtest_cover.proofs.laws.counters_are_ordered.Goals as goal

pub returns : goal.returns
returns c = counters_ordered
