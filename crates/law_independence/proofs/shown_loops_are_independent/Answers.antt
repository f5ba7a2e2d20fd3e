use Rattle.law_independence.proofs.IndependentNests.{shown_loops_are_independent as the_law}
use Rattle.law_independence.proofs.shown_loops_are_independent.Goals as goal

pub returns : goal.returns
returns c = the_law
