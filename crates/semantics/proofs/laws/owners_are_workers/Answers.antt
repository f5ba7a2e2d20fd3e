use Rattle.semantics.proofs.LawAnswers.{owners_are_workers as the_law}
use Rattle.semantics.proofs.laws.owners_are_workers.Goals as goal

pub returns : goal.returns
returns c = the_law
