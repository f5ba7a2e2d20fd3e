use Rattle.law_turns.proofs.Laws.{turns_join as the_law}
use Rattle.law_turns.proofs.turns_join.Goals as goal

pub returns : goal.returns
returns c = the_law
