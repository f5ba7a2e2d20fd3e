use Rattle.ktree.specs.DirectiveView.{name_of, directive_of}
use Rattle.std.specs.Prelude.{option_map}
use Rattle.flow_doacross.specs.Views.{elements_of}
use Rattle.flow_doacross.proofs.LinesLaw.{sink_read}
use Rattle.flow_doacross.proofs.finding.sink_at.Goals as goal

pub returns : goal.returns
returns c =
    sink_read c.args.directives.now c.args.place.line (directive_of name_of c.in-Ok.directive.now) (option_map (λ es. elements_of es.now) c.sink_said.result) c.in-Ok.ensures.ok c.sink_said.ensures
