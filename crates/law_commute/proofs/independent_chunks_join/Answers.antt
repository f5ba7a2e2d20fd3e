use Rattle.law_commute.proofs.Joining.{independent_join as the_law}
use Rattle.law_commute.proofs.independent_chunks_join.Goals as goal

pub returns : goal.returns
returns c = the_law
