use Rattle.semantics.proofs.FlagLaw.{flag_is_true as the_law}
use Rattle.semantics.proofs.laws.flag_is_true.Goals as goal

pub returns : goal.returns
returns c = the_law
