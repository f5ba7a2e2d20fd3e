use Rattle.law_grammar.proofs.TextComplete.{kernel_read as the_law}
use Rattle.law_grammar.proofs.kernels_are_read.Goals as goal

pub returns : goal.returns
returns c = the_law
