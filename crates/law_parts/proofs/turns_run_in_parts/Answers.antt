use Rattle.law_parts.proofs.Parts.{parts_law}
use Rattle.law_parts.proofs.turns_run_in_parts.Goals as goal

pub returns : goal.returns
returns c = parts_law
