use Rattle.std.proofs.Common.{rules}
use Rattle.flow_doacross.proofs.FrontLaw.{a_sink_more}
use Rattle.flow_doacross.proofs.cutting.front_length.Goals as goal

pub loop-index-preserved : goal.loop-index-preserved
loop-index-preserved c =
    a_sink_more c.args.directives.now c.args.items.now c.loop-index.index c.index-items-index.result c.loop-index-test.true c.index-items-index.is
    (search rules) c.loop-index.invariant
