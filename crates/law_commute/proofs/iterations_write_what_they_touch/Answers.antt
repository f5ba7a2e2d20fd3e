use Rattle.law_commute.proofs.Iterations.{iterations_write as the_law}
use Rattle.law_commute.proofs.iterations_write_what_they_touch.Goals as goal

pub returns : goal.returns
returns c = the_law
