use Rattle.deptest_verdict.specs.Sinks.{distances_of}
use Rattle.deptest_verdict.proofs.Writes.{AreShownWrites}
use Rattle.deptest_verdict.proofs.pairs.first_write_behind.Given as goal

-- those before are shown to be independent of the access
abbrev pub invariant-loop-number : goal.invariant-loop-number
invariant-loop-number l = AreShownWrites l.nest (distances_of l.sinks) l.x l.from l.accesses.all.items l.accesses.writes.items l.number-index
