use Rattle.semantics.proofs.LawAnswers.{runs_are_unique as the_law}
use Rattle.semantics.proofs.laws.runs_are_unique.Goals as goal

pub returns : goal.returns
returns c = the_law
