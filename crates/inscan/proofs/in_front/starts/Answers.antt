use Rattle.ktree.specs.DirectiveView.{operator_of}
use Rattle.inscan.proofs.Begun.{one_more}
use Rattle.inscan.proofs.in_front.starts.Goals as goal

pub loop-partial-preserved : goal.loop-partial-preserved
loop-partial-preserved c =
    one_more (operator_of c.args.operator) c.args.held c.args.partials.now c.loop-partial.partial-index c.loop-partial.value c.combine_by-value.result _ c.loop-partial.starts.items c.push-in-loop-partial.new.self.items c.loop-partial-test.true c.loop-partial.invariant c.combine_by-value.ensures c.in_ok-push-2.ensures.items
