use Rattle.law_orders.proofs.Scanned.{scan_nests_commute as the_law}
use Rattle.law_orders.proofs.scan_nests_commute.Goals as goal

pub returns : goal.returns
returns c = the_law
