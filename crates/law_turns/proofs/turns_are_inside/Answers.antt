use Rattle.law_turns.proofs.Laws.{turns_are_inside as the_law}
use Rattle.law_turns.proofs.turns_are_inside.Goals as goal

pub returns : goal.returns
returns c = the_law
