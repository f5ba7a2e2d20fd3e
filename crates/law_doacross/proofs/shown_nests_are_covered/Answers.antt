use Rattle.law_doacross.proofs.Covered.{shown_nests_are_covered as the_law}
use Rattle.law_doacross.proofs.shown_nests_are_covered.Goals as goal

pub returns : goal.returns
returns c = the_law
