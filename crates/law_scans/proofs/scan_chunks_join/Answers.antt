use Rattle.law_scans.proofs.Scanning.{join as the_law}
use Rattle.law_scans.proofs.scan_chunks_join.Goals as goal

pub returns : goal.returns
returns c = the_law
