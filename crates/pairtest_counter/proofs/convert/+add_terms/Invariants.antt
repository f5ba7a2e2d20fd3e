use Rattle.std.proofs.Common.{length}
use Rattle.pairtest_counter.proofs.convert.+add_terms.Given as goal

abbrev pub decreases-add_terms : goal.decreases-add_terms
decreases-add_terms l = length l.terms.now
