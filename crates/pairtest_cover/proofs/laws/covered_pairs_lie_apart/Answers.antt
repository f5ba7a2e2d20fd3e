use Rattle.pairtest_cover.proofs.Apart.{covered_apart}
use Rattle.pairtest_cover.proofs.laws.covered_pairs_lie_apart.Goals as goal

pub returns : goal.returns
returns c = covered_apart
