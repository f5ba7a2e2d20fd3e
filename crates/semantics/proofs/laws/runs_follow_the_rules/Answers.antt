use Rattle.semantics.proofs.LawAnswers.{runs_follow_the_rules as the_law}
use Rattle.semantics.proofs.laws.runs_follow_the_rules.Goals as goal

pub returns : goal.returns
returns c = the_law
