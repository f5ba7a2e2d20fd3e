use Rattle.law_prefix_parts.proofs.Parts.{operands_law}
use Rattle.law_prefix_parts.proofs.operands_in_parts.Goals as goal

pub returns : goal.returns
returns c = operands_law
