use Rattle.law_nests.proofs.Joined.{nests_join as the_law}
use Rattle.law_nests.proofs.independent_nests_join.Goals as goal

pub returns : goal.returns
returns c = the_law
