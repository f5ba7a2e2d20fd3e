use Rattle.pairtest.proofs.Sums.{refuted_has_none}
use Rattle.pairtest.proofs.laws.refuted_equations_have_no_solution.Goals as goal

pub returns : goal.returns
returns c = refuted_has_none
