use Rattle.law_starts.proofs.Holding.{walks_keep}
use Rattle.law_starts.proofs.walks_keep_numbers.Goals as goal

pub returns : goal.returns
returns c = walks_keep
