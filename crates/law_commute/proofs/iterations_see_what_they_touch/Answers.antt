use Rattle.law_commute.proofs.Iterations.{iterations_see as the_law}
use Rattle.law_commute.proofs.iterations_see_what_they_touch.Goals as goal

pub returns : goal.returns
returns c = the_law
