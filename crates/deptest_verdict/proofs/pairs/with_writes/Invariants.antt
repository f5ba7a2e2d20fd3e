use Rattle.deptest_verdict.specs.Pairs.{AreWritesBefore}
use Rattle.deptest_verdict.proofs.pairs.with_writes.Given as goal

-- the numbers of the accesses before that write
abbrev pub invariant-loop-number : goal.invariant-loop-number
invariant-loop-number l = AreWritesBefore l.access-items l.writes.items l.number
