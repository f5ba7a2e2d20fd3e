use Rattle.law_private.proofs.Alike.{known_alike as the_law}
use Rattle.law_private.proofs.known_states_run_alike.Goals as goal

pub returns : goal.returns
returns c = the_law
