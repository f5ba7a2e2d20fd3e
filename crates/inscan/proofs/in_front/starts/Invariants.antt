use Rattle.ktree.specs.DirectiveView.{operator_of}
use Rattle.inscan.proofs.Begun.{AreSoFar}
use Rattle.inscan.proofs.in_front.starts.Given as goal

abbrev pub invariant-loop-partial : goal.invariant-loop-partial
invariant-loop-partial l = AreSoFar (operator_of l.operator) l.held l.partials l.partial-index l.value l.starts.items
