use Rattle.ktree.specs.DirectiveView.{name_of, directive_of}
use Rattle.std.specs.Prelude.{option_map}
use Rattle.flow_scan.specs.Views.{line_said}
use Rattle.flow_scan.proofs.LinesLaw.{said_read}
use Rattle.flow_scan.proofs.clauses.scan_line.Goals as goal

pub returns : goal.returns
returns c =
    said_read c.args.directives.now c.args.place.line (directive_of name_of c.in-Ok.directive.now) (option_map line_said c.said_by.result) c.in-Ok.ensures.ok c.said_by.ensures
