use Rattle.semantics.proofs.Levels.{levels_above as the_law}
use Rattle.semantics.proofs.laws.levels_lie_above_sinks.Goals as goal

pub returns : goal.returns
returns c = the_law
