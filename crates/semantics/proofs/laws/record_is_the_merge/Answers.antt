use Rattle.semantics.proofs.MachineLaw.{merges_what_arrived as the_law}
use Rattle.semantics.proofs.laws.record_is_the_merge.Goals as goal

pub returns : goal.returns
returns c = the_law
