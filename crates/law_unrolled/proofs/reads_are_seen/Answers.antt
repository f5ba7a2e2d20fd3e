use Rattle.law_unrolled.proofs.Seen.{seen_law}
use Rattle.law_unrolled.proofs.reads_are_seen.Goals as goal

pub returns : goal.returns
returns c = seen_law
