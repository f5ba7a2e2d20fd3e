use Rattle.nest_loop.proofs.Boxes.{difference_tested}
use Rattle.nest_loop.proofs.wrapping.is_least.Goals as goal

pub returns-clause-ok : goal.returns-clause-ok
returns-clause-ok c = difference_tested c.args.bounds.now c.args.less.now c.args.greater.now c.in_ok-difference.difference c.is_at_least.result c.in_ok-difference.ensures.value c.is_at_least.ensures
