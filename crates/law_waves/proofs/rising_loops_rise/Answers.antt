use Rattle.law_waves.proofs.Iterating.{rise as the_law}
use Rattle.law_waves.proofs.rising_loops_rise.Goals as goal

pub returns : goal.returns
returns c = the_law
