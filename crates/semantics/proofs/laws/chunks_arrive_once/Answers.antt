use Rattle.semantics.proofs.TakeLaw.{arrives_once as the_law}
use Rattle.semantics.proofs.laws.chunks_arrive_once.Goals as goal

pub returns : goal.returns
returns c = the_law
