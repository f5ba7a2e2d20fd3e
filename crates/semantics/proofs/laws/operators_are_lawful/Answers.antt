use Rattle.semantics.specs.Loops.OperatorLaw.{operators_are_lawful as the_law}
use Rattle.semantics.proofs.laws.operators_are_lawful.Goals as goal

pub returns : goal.returns
returns c = the_law
