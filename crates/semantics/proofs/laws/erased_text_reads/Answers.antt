use Rattle.semantics.proofs.EraseTextLaw.{text_erased}
use Rattle.semantics.proofs.laws.erased_text_reads.Goals as goal

pub returns : goal.returns
returns c = λ text tree reads. text_erased reads
