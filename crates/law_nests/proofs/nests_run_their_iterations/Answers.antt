use Rattle.law_nests.proofs.Nested.{nests_run as the_law}
use Rattle.law_nests.proofs.nests_run_their_iterations.Goals as goal

pub returns : goal.returns
returns c = the_law
