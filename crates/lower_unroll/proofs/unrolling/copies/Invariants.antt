use Rattle.std.proofs.Common.{◌≤◌}
use Rattle.lower_unroll.proofs.Counts.{IsWritten}
use Rattle.lower_unroll.proofs.unrolling.copies.Given as goal

-- the turns that are written so far
abbrev pub invariant-turns : goal.invariant-turns
invariant-turns l = (l.turn ≤ l.counted.turns) × IsWritten l.counted.body.now l.counted.variable.at l.counted.first l.counted.by l.counted.turns l.turn l.code
