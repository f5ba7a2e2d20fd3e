use Rattle.nest.proofs.Exact.{refusals_have_turns as the_law}
use Rattle.nest.proofs.law.refusals_have_turns.Goals as goal

pub returns : goal.returns
returns c = the_law
