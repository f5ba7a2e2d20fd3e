use Rattle.law_lines.proofs.Stripped.{stripped_trees_are_one as the_law}
use Rattle.law_lines.proofs.stripped_trees_are_one.Goals as goal

pub returns : goal.returns
returns c = the_law
