use Rattle.semantics.proofs.TakeLaw.{whole_lists_arrive as the_law}
use Rattle.semantics.proofs.laws.whole_lists_arrive.Goals as goal

pub returns : goal.returns
returns c = the_law
