use Rattle.flow_scan.proofs.TellLaw.{tell as the_law}
use Rattle.flow_scan.proofs.laws.lines_tell_scans.Goals as goal

pub returns : goal.returns
returns c = the_law
