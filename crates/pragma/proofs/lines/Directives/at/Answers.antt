use Rattle.std.proofs.Common.{sym, ap, ◌∙◌, option_map}
use Rattle.semantics.specs.Source.Text.{line_at}
use Rattle.ktree.specs.DirectiveView.{name_of, directive_of}
use Rattle.pragma.specs.Views.{said_of}
use Rattle.pragma.proofs.LoopLaw.{none_said, read_fault, no_loop}
use Rattle.pragma.proofs.lines.Directives.at.Goals as goal

pub returns-in-Err-clause-err : goal.returns-in-Err-clause-err
returns-in-Err-clause-err c = none_said (line_at c.args.self.now c.args.place.line) c.args.place c.in-Err.refusal c.in-Err.ensures.err

pub returns-in-None-clause-err : goal.returns-in-None-clause-err
returns-in-None-clause-err c =
    let line = line_at c.args.self.now c.args.place.line in
    let d = directive_of name_of c.in-Ok.directive.now in
    (read_fault line c.args.place d c.in-Ok.ensures.ok, no_loop line d c.in-Ok.ensures.ok (sym c.loop_of.ensures ∙ ap (option_map said_of) c.in-None.is))
