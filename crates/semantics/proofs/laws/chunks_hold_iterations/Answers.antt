use Rattle.semantics.proofs.LawAnswers.{chunks_hold_iterations as the_law}
use Rattle.semantics.proofs.laws.chunks_hold_iterations.Goals as goal

pub returns : goal.returns
returns c = the_law
