use Rattle.std.proofs.Common.{arith}
use Rattle.seqrun_io.proofs.LineSteps.{formed_stops, formed_ends}
use Rattle.seqrun_io.proofs.reading.is_formed.Goals as goal

pub returns-then-fresh : goal.returns-then-fresh
returns-then-fresh c = formed_stops c.args.line.now c.loop-byte.fresh c.loop-byte.byte-index (omega arith) c.if-byte-eq32.true c.if-fresh.true c.loop-byte.invariant

pub returns : goal.returns
returns c = formed_ends c.args.line.now c.loop-byte.fresh c.loop-byte.byte-index (omega arith) c.loop-byte.invariant
