use Rattle.deptest_verdict.specs.Sinks.{distances_of}
use Rattle.deptest_verdict.specs.Pairs.{AreShownBefore}
use Rattle.deptest_verdict.proofs.pairs.first_pair.Given as goal

-- each access before is shown to be independent
abbrev pub invariant-loop-i : goal.invariant-loop-i
invariant-loop-i l = AreShownBefore l.nest (distances_of l.sinks) l.accesses.all.items l.i
