use Rattle.law_orders.proofs.Ordered.{doacross_commute as the_law}
use Rattle.law_orders.proofs.doacross_nests_commute.Goals as goal

pub returns : goal.returns
returns c = the_law
