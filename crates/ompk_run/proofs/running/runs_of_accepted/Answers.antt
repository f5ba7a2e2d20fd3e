use Rattle.ompk_run.proofs.Output.{runs_are_there}
use Rattle.ompk_run.proofs.running.runs_of_accepted.Goals as goal

pub returns : goal.returns
returns c = runs_are_there
