use Rattle.law_reordered.proofs.Reordered.{accepted_scans as the_law}
use Rattle.law_reordered.proofs.accepted_scans_commute.Goals as goal

pub returns : goal.returns
returns c = the_law
