use Rattle.std.proofs.Common.{inr}
use Rattle.nest.proofs.PerfectLaw.{has_side, has_no_side}
use Rattle.nest.proofs.perfect.independent.Goals as goal

pub returns-then-has-clause-err : goal.returns-then-has-clause-err
returns-then-has-clause-err c = inr (λ l e f. has_side c.args.bounds.now c.args.head.now.variable.0 c.if-has.ensures f)

pub returns-clause-ok : goal.returns-clause-ok
returns-clause-ok c = (c.in_ok-canonical.ensures.ok, has_no_side c.args.bounds.now c.args.head.now.variable.0 c.if-has.ensures)
