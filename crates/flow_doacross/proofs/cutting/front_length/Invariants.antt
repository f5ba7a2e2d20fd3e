use Rattle.flow_doacross.proofs.FrontLaw.{AreSinks}
use Rattle.flow_doacross.proofs.cutting.front_length.Given as goal

-- those that are passed are sinks
abbrev pub invariant-loop-index : goal.invariant-loop-index
invariant-loop-index l = AreSinks l.directives l.items l.index
