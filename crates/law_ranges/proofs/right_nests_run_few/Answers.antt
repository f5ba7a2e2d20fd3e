use Rattle.law_ranges.proofs.Running.{right_nests_run_few as the_law}
use Rattle.law_ranges.proofs.right_nests_run_few.Goals as goal

pub returns : goal.returns
returns c = the_law
