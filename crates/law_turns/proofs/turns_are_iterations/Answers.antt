use Rattle.law_turns.proofs.Laws.{turns_are_iterations as the_law}
use Rattle.law_turns.proofs.turns_are_iterations.Goals as goal

pub returns : goal.returns
returns c = the_law
