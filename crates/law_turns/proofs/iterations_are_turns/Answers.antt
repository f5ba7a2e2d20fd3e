use Rattle.law_turns.proofs.Laws.{iterations_are_turns as the_law}
use Rattle.law_turns.proofs.iterations_are_turns.Goals as goal

pub returns : goal.returns
returns c = the_law
