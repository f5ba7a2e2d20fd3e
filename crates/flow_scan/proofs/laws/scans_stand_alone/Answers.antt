use Rattle.flow_scan.proofs.StandLaw.{stand_alone as the_law}
use Rattle.flow_scan.proofs.laws.scans_stand_alone.Goals as goal

pub returns : goal.returns
returns c = the_law
