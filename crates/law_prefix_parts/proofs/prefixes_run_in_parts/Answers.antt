use Rattle.law_prefix_parts.proofs.Parts.{prefix_parts_law}
use Rattle.law_prefix_parts.proofs.prefixes_run_in_parts.Goals as goal

pub returns : goal.returns
returns c = prefix_parts_law
