use Rattle.ktree.specs.DirectiveView.{name_of, directive_of}
use Rattle.pragma_region.proofs.Regions.{shared_read, shared_none}
use Rattle.pragma_region.proofs.listing.shared_at.Goals as goal

pub returns-in_default : goal.returns-in_default
returns-in_default c here s = shared_none c.args.directives.now here c.args.place.line s c.in_default.ensures.err.1

pub returns : goal.returns
returns c here s = shared_read c.args.directives.now here c.args.place.line (directive_of name_of c.in-Ok.directive.now) s _ c.in-Ok.ensures.ok (c.shared_loop.ensures here s)
