use Rattle.law_roles.proofs.Shifting.{shift as the_law}
use Rattle.law_roles.proofs.reductions_shift.Goals as goal

pub returns : goal.returns
returns c = the_law
