use Rattle.ktree.specs.DirectiveView.{name_of, directive_of}
use Rattle.flow_scan.proofs.LinesLaw.{one_read}
use Rattle.flow_scan.proofs.clauses.associates_one_at.Goals as goal

pub returns : goal.returns
returns c = one_read c.args.directives.now c.args.place.line (directive_of name_of c.in-Ok.directive.now) c.associates_one.result c.in-Ok.ensures.ok c.associates_one.ensures
