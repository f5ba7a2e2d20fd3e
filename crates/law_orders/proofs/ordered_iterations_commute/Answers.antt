use Rattle.law_orders.proofs.Ordered.{ordered_commute as the_law}
use Rattle.law_orders.proofs.ordered_iterations_commute.Goals as goal

pub returns : goal.returns
returns c = the_law
