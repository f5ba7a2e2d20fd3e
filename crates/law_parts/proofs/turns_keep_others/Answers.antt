use Rattle.law_parts.proofs.Parts.{others_law}
use Rattle.law_parts.proofs.turns_keep_others.Goals as goal

pub returns : goal.returns
returns c = others_law
