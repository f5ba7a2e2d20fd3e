use Rattle.law_turns.proofs.Laws.{iterations_are_there as the_law}
use Rattle.law_turns.proofs.iterations_are_there.Goals as goal

pub returns : goal.returns
returns c = the_law
