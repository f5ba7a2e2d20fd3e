use Rattle.law_doacross.proofs.CoveredKernels.{shown_kernels_are_covered as the_law}
use Rattle.law_doacross.proofs.shown_kernels_are_covered.Goals as goal

pub returns : goal.returns
returns c = the_law
