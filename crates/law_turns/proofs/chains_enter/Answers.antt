use Rattle.law_turns.proofs.Laws.{chains_enter as the_law}
use Rattle.law_turns.proofs.chains_enter.Goals as goal

pub returns : goal.returns
returns c = the_law
