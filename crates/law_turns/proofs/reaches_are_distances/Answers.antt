use Rattle.law_turns.proofs.Laws.{reaches_are_distances as the_law}
use Rattle.law_turns.proofs.reaches_are_distances.Goals as goal

pub returns : goal.returns
returns c = the_law
