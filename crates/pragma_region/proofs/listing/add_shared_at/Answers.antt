use Rattle.std.specs.Prelude.{Option, option_map}
use Rattle.std.proofs.Common.{Bor, sym, ap, ◌∙◌}
use Rattle.ktree.specs.View.{stmt_of}
use Rattle.ktree.specs.DirectiveView.{name_of, directive_of}
use Rattle.ktree.specs.declared.directive.Written.{Written}
use Rattle.ktree.specs.declared.directive.Directive.{Directive}
use Rattle.pragma_attach.specs.Standing.{directive_on}
use Rattle.pragma_region.specs.Listed.{loop_there, shared_line}
use Rattle.pragma_region.proofs.Regions.{none_added}
use Rattle.pragma_region.proofs.listing.add_shared_at.Goals as goal

pub returns-in-None : goal.returns-in-None
returns-in-None c =
    let text = c.args.directives.now in
    let behind = stmt_of c.args.statement.now in
    none_added c.args.parts.now.items (shared_line text (directive_on text c.args.place.line) behind)
    (ap (λ (o : Option (Bor (Directive Written))). loop_there text (option_map (λ d. directive_of name_of d.now) o) behind) (sym c.in-None.is) ∙ c.shared_at.ensures text behind)
