use Rattle.law_unrolled.proofs.Apart.{apart_law}
use Rattle.law_unrolled.proofs.nests_keep_apart.Goals as goal

pub returns : goal.returns
returns c = apart_law
