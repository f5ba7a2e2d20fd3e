use Rattle.std.specs.Prelude.{option_and_then}
use Rattle.std.proofs.Common.{sym, ap, ◌∙◌}
use Rattle.ktree.specs.DirectiveView.{name_of, directive_of}
use Rattle.pragma.specs.Clauses.{loop_of}
use Rattle.pragma_attach.proofs.LookLaw.{is_on, none_on}
use Rattle.nest_lines.proofs.imperfect.said_at.Goals as goal

pub returns-in_default : goal.returns-in_default
returns-in_default c = ap (option_and_then loop_of) (sym (none_on c.args.directives.now c.args.place.line c.in_default.ensures.err.1))

pub returns : goal.returns
returns c = c.loop_of.ensures ∙ ap (option_and_then loop_of) (sym (is_on c.args.directives.now c.args.place.line (directive_of name_of c.in-Ok.directive.now) c.in-Ok.ensures.ok))
