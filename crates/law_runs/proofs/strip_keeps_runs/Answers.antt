use Rattle.law_runs.proofs.StripRun.{strip_keeps_runs as the_law}
use Rattle.law_runs.proofs.strip_keeps_runs.Goals as goal

pub returns : goal.returns
returns c = the_law
