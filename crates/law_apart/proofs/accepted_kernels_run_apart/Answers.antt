use Rattle.law_apart.proofs.Accepted.{accepted_apart as the_law}
use Rattle.law_apart.proofs.accepted_kernels_run_apart.Goals as goal

pub returns : goal.returns
returns c = the_law
