use Rattle.pairtest.proofs.OneLoop.{one_loop_is_exact_lem}
use Rattle.pairtest.proofs.laws.one_loop_is_exact.Goals as goal

pub returns : goal.returns
returns c = one_loop_is_exact_lem
