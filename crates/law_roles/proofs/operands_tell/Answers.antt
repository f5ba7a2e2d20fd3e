use Rattle.law_roles.proofs.Shifting.{tell as the_law}
use Rattle.law_roles.proofs.operands_tell.Goals as goal

pub returns : goal.returns
returns c = the_law
