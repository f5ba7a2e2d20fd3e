use Rattle.outline.proofs.Lookups.{stands, stands_not, one_stands}
use Rattle.outline.proofs.handing.loop_at.Goals as goal

pub returns-then-parallel-line : goal.returns-then-parallel-line
returns-then-parallel-line c = stands c.args.loops.now c.args.line c.loop-parallel.parallel-index c.parallel-item.result c.loop-parallel-test.true c.parallel-item.is c.if-parallel-line.true

pub loop-parallel-preserved : goal.loop-parallel-preserved
loop-parallel-preserved c =
    stands_not c.args.loops.now c.args.line c.loop-parallel.parallel-index c.parallel-item.result c.loop-parallel-test.true c.parallel-item.is c.if-parallel-line.false c.loop-parallel.invariant

pub unreachable-requires : goal.unreachable-requires
unreachable-requires c = one_stands c.args.loops.now c.args.line c.loop-parallel.parallel-index c.loop-parallel-test.false c.loop-parallel.invariant c.requires
