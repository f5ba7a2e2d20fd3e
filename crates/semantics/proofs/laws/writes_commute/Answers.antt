use Rattle.semantics.proofs.Commute.{writes_commute as the_law}
use Rattle.semantics.proofs.laws.writes_commute.Goals as goal

pub returns : goal.returns
returns c = the_law
