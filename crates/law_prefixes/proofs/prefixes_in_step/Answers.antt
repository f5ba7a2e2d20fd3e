use Rattle.law_prefixes.proofs.Prefixes.{prefixes_law}
use Rattle.law_prefixes.proofs.prefixes_in_step.Goals as goal

pub returns : goal.returns
returns c = prefixes_law
