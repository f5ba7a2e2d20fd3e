use Rattle.law_nests.proofs.Merged.{chunks_merge as the_law}
use Rattle.law_nests.proofs.independent_chunks_merge.Goals as goal

pub returns : goal.returns
returns c = the_law
