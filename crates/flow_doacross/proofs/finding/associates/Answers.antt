use Rattle.pragma.specs.Views.{scheduled}
use Rattle.flow_doacross.proofs.LinesLaw.{number_read, number_none}
use Rattle.flow_doacross.proofs.finding.associates.Goals as goal

pub returns-in_default : goal.returns-in_default
returns-in_default c = number_none c.args.directives.now c.args.place.line c.args.depth c.in_default.ensures.err.1

pub returns : goal.returns
returns c =
    number_read c.args.directives.now c.args.place.line c.associated_loops.result c.args.depth (scheduled c.in-Ok.said) c.in-Ok.said.collapse c.in-Ok.ensures.ok c.associated_loops.ensures
