use Rattle.ktree.specs.DirectiveView.{name_of, directive_of}
use Rattle.pragma_region.proofs.Lines.{doacross_read}
use Rattle.pragma_region.proofs.dissolving.is_doacross.Goals as goal

pub returns : goal.returns
returns c = doacross_read c.args.directives.now c.args.place.line (directive_of name_of c.in-Ok.directive.now) c.is_doacross_directive.result c.in-Ok.ensures.ok c.is_doacross_directive.ensures
