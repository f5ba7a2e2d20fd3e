use Rattle.law_roles.proofs.Shifting.{go as the_law}
use Rattle.law_roles.proofs.operands_run.Goals as goal

pub returns : goal.returns
returns c = the_law
