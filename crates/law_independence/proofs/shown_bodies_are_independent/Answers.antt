use Rattle.law_independence.proofs.Independent.{shown_bodies_are_independent as the_law}
use Rattle.law_independence.proofs.shown_bodies_are_independent.Goals as goal

pub returns : goal.returns
returns c = the_law
