use Rattle.law_turns.proofs.Laws.{iterations_differ as the_law}
use Rattle.law_turns.proofs.iterations_differ.Goals as goal

pub returns : goal.returns
returns c = the_law
