use Rattle.law_turns.proofs.Laws.{entered_join as the_law}
use Rattle.law_turns.proofs.entered_join.Goals as goal

pub returns : goal.returns
returns c = the_law
