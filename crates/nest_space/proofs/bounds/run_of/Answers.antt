use Rattle.nest_space.specs.Nests.{given}
use Rattle.nest_space.proofs.Runs.{bounds_are, run_law}
use Rattle.nest_space.proofs.bounds.run_of.Goals as goal

pub returns : goal.returns
returns c =
    let values = given c.args.values.now in
    let bounds = bounds_are c.args.head.now values c.in-Some.start c.in-Some-bound_at.limit c.in-Some.ensures c.in-Some-bound_at.ensures in
    run_law c.args.head.now values c.in-Some.start c.in-Some-bound_at.limit c.count.result c.new.result bounds c.if-head-eq0.false (c.has_room.ensures.0 c.if-not-has_room.false) c.count.ensures c.new.ensures
