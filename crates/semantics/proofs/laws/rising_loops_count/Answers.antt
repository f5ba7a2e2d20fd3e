use Rattle.semantics.proofs.NestLaw.{rising_loops_count as the_law}
use Rattle.semantics.proofs.laws.rising_loops_count.Goals as goal

pub returns : goal.returns
returns c = the_law
