use Rattle.ktree.specs.View.{stmt_of}
use Rattle.nest.proofs.Along.{right_judged}
use Rattle.nest.proofs.perfect.right_nest.Goals as goal

pub returns : goal.returns
returns c =
    right_judged _ c.args.most c.args.depth c.args.bounds.now (stmt_of c.args.statement.now) c.args.found.loops.now c.is_small-small.result c.is_rectangular-rectangular.result c.both.result
    (c.if-not-is_perfect.ensures.0 cc) c.is_small-small.ensures.ok c.is_small-small.ensures.err c.is_rectangular-rectangular.ensures c.both.ensures
