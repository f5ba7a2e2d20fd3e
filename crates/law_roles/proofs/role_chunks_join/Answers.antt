use Rattle.law_roles.proofs.Joining.{join as the_law}
use Rattle.law_roles.proofs.role_chunks_join.Goals as goal

pub returns : goal.returns
returns c = the_law
