use Rattle.nest.proofs.Exact.{ranges_are_exact as the_law}
use Rattle.nest.proofs.law.ranges_are_exact.Goals as goal

pub returns : goal.returns
returns c = the_law
