use Rattle.law_apart.proofs.Shared.{left_apart as the_law}
use Rattle.law_apart.proofs.effects_are_left_apart.Goals as goal

pub returns : goal.returns
returns c = the_law
