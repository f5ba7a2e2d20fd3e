use Rattle.law_turns.proofs.Laws.{steps_tell_turns as the_law}
use Rattle.law_turns.proofs.steps_tell_turns.Goals as goal

pub returns : goal.returns
returns c = the_law
