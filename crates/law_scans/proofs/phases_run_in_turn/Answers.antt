use Rattle.law_scans.proofs.Phased.{runs_joined as the_law}
use Rattle.law_scans.proofs.phases_run_in_turn.Goals as goal

pub returns : goal.returns
returns c = the_law
