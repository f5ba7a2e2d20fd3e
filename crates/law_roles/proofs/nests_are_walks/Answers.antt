use Rattle.law_roles.proofs.Followed.{walked as the_law}
use Rattle.law_roles.proofs.nests_are_walks.Goals as goal

pub returns : goal.returns
returns c = the_law
