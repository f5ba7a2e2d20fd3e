use Rattle.semantics.proofs.JoinLaw.{every_order as the_law}
use Rattle.semantics.proofs.laws.every_order.Goals as goal

pub returns : goal.returns
returns c = the_law
