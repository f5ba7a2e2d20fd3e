use Rattle.law_turns.proofs.Laws.{entered_are_levels as the_law}
use Rattle.law_turns.proofs.entered_are_levels.Goals as goal

pub returns : goal.returns
returns c = the_law
