use Rattle.law_orders.proofs.Rows.{rows as the_law}
use Rattle.law_orders.proofs.order_rows.Goals as goal

pub returns : goal.returns
returns c = the_law
