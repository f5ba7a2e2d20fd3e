use Rattle.ktree.specs.DirectiveView.{name_of, directive_of}
use Rattle.flow_scan.proofs.LinesLaw.{loop_read}
use Rattle.flow_scan.proofs.clauses.is_loop_line.Goals as goal

pub returns : goal.returns
returns c = loop_read c.args.directives.now c.args.place.line (directive_of name_of c.in-Ok.directive.now) c.is_loop.result c.in-Ok.ensures.ok c.is_loop.ensures
