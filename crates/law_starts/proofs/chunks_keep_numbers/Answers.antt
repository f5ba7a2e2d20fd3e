use Rattle.law_starts.proofs.Holding.{chunks_keep}
use Rattle.law_starts.proofs.chunks_keep_numbers.Goals as goal

pub returns : goal.returns
returns c = chunks_keep
