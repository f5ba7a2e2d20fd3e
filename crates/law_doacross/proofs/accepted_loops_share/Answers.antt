use Rattle.law_doacross.proofs.WavedKernels.{accepted_loops_share as the_law}
use Rattle.law_doacross.proofs.accepted_loops_share.Goals as goal

pub returns : goal.returns
returns c = the_law
