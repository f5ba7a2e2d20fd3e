use Rattle.law_private.proofs.Chunks.{private_merge as the_law}
use Rattle.law_private.proofs.private_chunks_merge.Goals as goal

pub returns : goal.returns
returns c = the_law
