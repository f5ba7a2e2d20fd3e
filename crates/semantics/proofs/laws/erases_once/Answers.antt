use Rattle.semantics.proofs.EraseOnce.{erases_once as the_law}
use Rattle.semantics.proofs.laws.erases_once.Goals as goal

pub returns : goal.returns
returns c = the_law
