use Rattle.law_scopes.proofs.Turning.{at_turns as the_law}
use Rattle.law_scopes.proofs.states_at_turns_are_turns.Goals as goal

pub returns : goal.returns
returns c = the_law
