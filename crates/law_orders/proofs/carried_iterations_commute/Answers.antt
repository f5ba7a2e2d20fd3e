use Rattle.law_orders.proofs.Scanned.{carried_commute as the_law}
use Rattle.law_orders.proofs.carried_iterations_commute.Goals as goal

pub returns : goal.returns
returns c = the_law
