use Rattle.law_doacross.proofs.RefusedKernels.{refusals_are_told as the_law}
use Rattle.law_doacross.proofs.refusals_are_told.Goals as goal

pub returns : goal.returns
returns c = the_law
