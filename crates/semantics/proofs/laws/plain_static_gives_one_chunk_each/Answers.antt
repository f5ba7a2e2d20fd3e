use Rattle.semantics.proofs.CutLaw.{one_chunk_each as the_law}
use Rattle.semantics.proofs.laws.plain_static_gives_one_chunk_each.Goals as goal

pub returns : goal.returns
returns c = the_law
