use Rattle.law_turns.proofs.Laws.{outside_is_a_turn as the_law}
use Rattle.law_turns.proofs.outside_is_a_turn.Goals as goal

pub returns : goal.returns
returns c = the_law
