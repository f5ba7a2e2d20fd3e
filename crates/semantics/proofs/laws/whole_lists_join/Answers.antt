use Rattle.semantics.proofs.JoinLaw.{whole_lists_join as the_law}
use Rattle.semantics.proofs.laws.whole_lists_join.Goals as goal

pub returns : goal.returns
returns c = the_law
