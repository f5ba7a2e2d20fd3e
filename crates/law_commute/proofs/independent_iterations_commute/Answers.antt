use Rattle.law_commute.proofs.Iterations.{independent_commute as the_law}
use Rattle.law_commute.proofs.independent_iterations_commute.Goals as goal

pub returns : goal.returns
returns c = the_law
