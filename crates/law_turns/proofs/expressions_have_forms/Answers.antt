use Rattle.law_turns.proofs.Laws.{expressions_have_forms as the_law}
use Rattle.law_turns.proofs.expressions_have_forms.Goals as goal

pub returns : goal.returns
returns c = the_law
