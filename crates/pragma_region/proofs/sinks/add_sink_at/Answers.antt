use Rattle.std.specs.Prelude.{map}
use Rattle.ktree.specs.DirectiveView.{name_of, directive_of}
use Rattle.pragma_region.specs.Listed.{sink_kept}
use Rattle.pragma_region.proofs.SinksLaw.{sink_none, sink_read}
use Rattle.pragma_region.proofs.sinks.add_sink_at.Goals as goal

pub returns-in_default : goal.returns-in_default
returns-in_default c = sink_none c.args.directives.now c.args.place.line (map sink_kept c.args.sinks.now.items) c.in_default.ensures.err.1

pub returns : goal.returns
returns c =
    sink_read c.add_sink.result c.args.directives.now c.args.place.line (directive_of name_of c.in-Ok.directive.now) (map sink_kept c.args.sinks.now.items) (map sink_kept c.add_sink.new.sinks.items) c.in-Ok.ensures.ok
    c.add_sink.ensures
