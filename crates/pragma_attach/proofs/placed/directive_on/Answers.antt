use Rattle.ktree.specs.DirectiveView.{name_of, directive_of}
use Rattle.pragma_attach.proofs.LookLaw.{is_on, none_on}
use Rattle.pragma_attach.proofs.placed.directive_on.Goals as goal

pub returns-in-Ok-clause-ok : goal.returns-in-Ok-clause-ok
returns-in-Ok-clause-ok c = is_on c.args.directives.now c.args.place.line (directive_of name_of c.in-Ok.directive.now) c.in-Ok.ensures.ok

pub returns-in-Err-clause-err : goal.returns-in-Err-clause-err
returns-in-Err-clause-err c = none_on c.args.directives.now c.args.place.line c.in-Err.ensures.err.1
