use Rattle.std.proofs.Common.{sym, ap, ◌∙◌}
use Rattle.ktree.specs.DirectiveView.{name_of, directive_of}
use Rattle.pragma_attach.proofs.LookLaw.{is_on, none_on}
use Rattle.flow_ordered.specs.Ordered.{loop_clauses}
use Rattle.flow_ordered.proofs.loops.clauses_at.Goals as goal

pub returns-in_default : goal.returns-in_default
returns-in_default c = ap loop_clauses (sym (none_on c.args.directives.now c.args.place.line c.in_default.ensures.err.1))

pub returns : goal.returns
returns c = c.clauses_of.ensures ∙ ap loop_clauses (sym (is_on c.args.directives.now c.args.place.line (directive_of name_of c.in-Ok.directive.now) c.in-Ok.ensures.ok))
