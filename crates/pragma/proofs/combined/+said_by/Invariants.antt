use Rattle.std.proofs.Common.{length}
use Rattle.pragma.proofs.combined.+said_by.Given as goal

abbrev pub decreases-said_by : goal.decreases-said_by
decreases-said_by l = length l.clauses.now
