use Rattle.law_private.proofs.More.{more_known as the_law}
use Rattle.law_private.proofs.more_is_known.Goals as goal

pub returns : goal.returns
returns c = the_law
