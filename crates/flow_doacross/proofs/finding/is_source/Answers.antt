use Rattle.ktree.specs.DirectiveView.{name_of, directive_of}
use Rattle.flow_doacross.proofs.LinesLaw.{source_read}
use Rattle.flow_doacross.proofs.finding.is_source.Goals as goal

pub returns : goal.returns
returns c = source_read c.args.directives.now c.args.place.line (directive_of name_of c.in-Ok.directive.now) c.is_source_directive.result c.in-Ok.ensures.ok c.is_source_directive.ensures
