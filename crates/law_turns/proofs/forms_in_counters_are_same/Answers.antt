use Rattle.law_turns.proofs.Laws.{forms_in_counters_are_same as the_law}
use Rattle.law_turns.proofs.forms_in_counters_are_same.Goals as goal

pub returns : goal.returns
returns c = the_law
