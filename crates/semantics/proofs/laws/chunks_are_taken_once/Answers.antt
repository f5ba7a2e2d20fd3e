use Rattle.semantics.proofs.TakeLaw.{takes_each_once as the_law}
use Rattle.semantics.proofs.laws.chunks_are_taken_once.Goals as goal

pub returns : goal.returns
returns c = the_law
