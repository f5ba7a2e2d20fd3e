use Rattle.semantics.proofs.Levels.{nothing_before_itself as the_law}
use Rattle.semantics.proofs.laws.nothing_comes_before_itself.Goals as goal

pub returns : goal.returns
returns c = the_law
