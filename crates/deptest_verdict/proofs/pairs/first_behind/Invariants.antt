use Rattle.std.proofs.Common.{All}
use Rattle.std.specs.Prelude.{take}
use Rattle.deptest_verdict.specs.Sinks.{distances_of}
use Rattle.deptest_verdict.specs.Pairs.{IsShown}
use Rattle.deptest_verdict.proofs.pairs.first_behind.Given as goal

-- the access is shown to be independent of those before
abbrev pub invariant-loop-j : goal.invariant-loop-j
invariant-loop-j l = All (IsShown l.nest (distances_of l.sinks) l.x) (take l.j l.others)
