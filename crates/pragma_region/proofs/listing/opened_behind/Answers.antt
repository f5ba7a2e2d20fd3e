use Rattle.std.specs.Prelude.{Option}
use Rattle.std.proofs.Common.{sym, ap, ◌∙◌}
use Rattle.ktree.specs.DirectiveView.{name_of, directive_of}
use Rattle.ktree.specs.declared.place.Place.{Place}
use Rattle.pragma_region.specs.Listed.{shared_in, region_behind, line_of}
use Rattle.pragma_region.proofs.Regions.{region_read, region_none}
use Rattle.pragma_region.proofs.listing.opened_behind.Goals as goal

pub returns-in_default-directive : goal.returns-in_default-directive
returns-in_default-directive c = λ statement inside.
    region_none c.args.directives.now c.in-Some.place.line statement inside c.in_default-directive.ensures.err.1
    ∙ ap (λ (o : Option Place). region_behind c.args.directives.now (line_of o) statement inside) (sym c.in-Some.is)

pub returns : goal.returns
returns c = λ statement inside.
    region_read c.args.directives.now c.in-Some.place.line (directive_of name_of c.in-Ok.directive.now) statement inside _ c.in-Ok.ensures.ok (c.opened_by.ensures c.args.directives.now statement (shared_in c.args.directives.now statement) inside)
    ∙ ap (λ (o : Option Place). region_behind c.args.directives.now (line_of o) statement inside) (sym c.in-Some.is)
