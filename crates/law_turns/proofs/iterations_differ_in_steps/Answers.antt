use Rattle.law_turns.proofs.Laws.{iterations_differ_in_steps as the_law}
use Rattle.law_turns.proofs.iterations_differ_in_steps.Goals as goal

pub returns : goal.returns
returns c = the_law
