use Rattle.law_reordered.proofs.Reordered.{accepted_nests as the_law}
use Rattle.law_reordered.proofs.accepted_nests_commute.Goals as goal

pub returns : goal.returns
returns c = the_law
