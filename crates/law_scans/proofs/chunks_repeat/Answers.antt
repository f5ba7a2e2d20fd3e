use Rattle.law_scans.proofs.Walking.{repeat as the_law}
use Rattle.law_scans.proofs.chunks_repeat.Goals as goal

pub returns : goal.returns
returns c = the_law
