use Rattle.law_runs.proofs.Nested.{nested_kernels_run as the_law}
use Rattle.law_runs.proofs.nested_kernels_run.Goals as goal

pub returns : goal.returns
returns c = the_law
