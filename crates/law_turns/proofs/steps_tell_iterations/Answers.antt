use Rattle.law_turns.proofs.Laws.{steps_tell_iterations as the_law}
use Rattle.law_turns.proofs.steps_tell_iterations.Goals as goal

pub returns : goal.returns
returns c = the_law
