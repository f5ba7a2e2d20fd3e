use Rattle.law_lines.proofs.Kept.{kept_lines_are_read as the_law}
use Rattle.law_lines.proofs.kept_lines_are_read.Goals as goal

pub returns : goal.returns
returns c = the_law
