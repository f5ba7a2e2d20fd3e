use Rattle.law_starts.proofs.Beginning.{may_begin}
use Rattle.law_starts.proofs.chunks_may_begin.Goals as goal

pub returns : goal.returns
returns c = may_begin
