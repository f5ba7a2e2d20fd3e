use Rattle.std.proofs.Common.{◌≡◌, drop}
use Rattle.semantics.specs.Loops.Order.{is_ahead}
use Rattle.flow_doacross.specs.Bodies.{distance_of}
use Rattle.flow_doacross.specs.Views.{elements_of}
use Rattle.flow_doacross.proofs.sinks.is_ahead.Given as goal

-- the elements that are left decide
abbrev pub invariant-loop-element : goal.invariant-loop-element
invariant-loop-element l = is_ahead (distance_of (elements_of (drop l.element-index l.elements))) ≡ is_ahead (distance_of (elements_of l.elements))
