use Rattle.std.proofs.Common.{length, ◌-◌, ◌≡◌, ◌≤◌, ◌++◌, take}
use Rattle.seqrun_io.proofs.sink.put_all.Given as goal

abbrev pub invariant-loop-start : goal.invariant-loop-start
invariant-loop-start g l =
    (l.start ≤ length l.bytes)
    × (g.S.Sink.told l.sink ≡ g.S.Sink.told l.initial.sink ++ take l.start l.bytes)
    × (g.S.Sink.failed l.sink ≡ g.S.Sink.failed l.initial.sink)

abbrev pub decreases-loop-start : goal.decreases-loop-start
decreases-loop-start g l = length l.bytes - l.start
