use Rattle.law_private.proofs.Orders.{private_commute as the_law}
use Rattle.law_private.proofs.private_iterations_commute.Goals as goal

pub returns : goal.returns
returns c = the_law
