use Rattle.law_grammar.proofs.TextSound.{kernel_sound as the_law}
use Rattle.law_grammar.proofs.read_kernels_stand.Goals as goal

pub returns : goal.returns
returns c = the_law
