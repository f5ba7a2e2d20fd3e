use Rattle.std.specs.Prelude.{◌++◌, [], ◌∷◌}
use Rattle.std.proofs.Common.{ap, ◌∙◌}
use Rattle.semantics.specs.Directives.Listing.{numbered}
use Rattle.listing.specs.Regions.{wait_line}
use Rattle.listing.proofs.Fronts.{begins_further}
use Rattle.listing.proofs.Texts.{wait_more}
use Rattle.listing.proofs.doacross.add_waits.Goals as goal

pub returns-in_err-add_wait-clause-front : goal.returns-in_err-add_wait-clause-front
returns-in_err-add_wait-clause-front c = begins_further c.args.text.now.items c.loop-sink.text.items c.add_wait.new.text.items _ c.loop-sink.invariant c.in_err-add_wait.ensures.front

pub loop-sink-preserved : goal.loop-sink-preserved
loop-sink-preserved c =
    wait_more c.args.region c.args.number c.args.text.now.items c.loop-sink.text.items c.add_wait.new.text.items c.args.sinks.now c.loop-sink.sink-index c.sink-item.result c.loop-sink-test.true c.sink-item.is
    c.loop-sink.invariant (c.in_ok-add_wait.ensures.added ∙ ap (λ ds. c.loop-sink.text.items ++ numbered c.args.region c.args.number (wait_line ds ∷ [])) c.as_slice.ensures.value)
