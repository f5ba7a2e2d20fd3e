use Rattle.ktree.specs.DirectiveView.{name_of, directive_of}
use Rattle.pragma_region.proofs.NotKnown.{number_read, number_none}
use Rattle.pragma_region.proofs.unknown.line_unknown.Goals as goal

pub returns-in_default : goal.returns-in_default
returns-in_default c = number_none c.args.directives.now c.args.place.line c.in_default.ensures.err.1

pub returns : goal.returns
returns c = number_read c.args.directives.now c.args.place.line (directive_of name_of c.in-Ok.directive.now) _ c.in-Ok.ensures.ok c.directive_unknown.ensures
