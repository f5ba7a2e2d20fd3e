use Rattle.semantics.proofs.CutLaw.{cuts_all as the_law}
use Rattle.semantics.proofs.laws.cuts_cover_the_loop.Goals as goal

pub returns : goal.returns
returns c = the_law
