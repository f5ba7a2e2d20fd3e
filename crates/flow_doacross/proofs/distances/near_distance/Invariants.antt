use Rattle.std.proofs.Common.{◌≡◌, ◌++◌, drop}
use Rattle.std.specs.Prelude.{option_map}
use Rattle.flow_doacross.specs.Bodies.{distance_of}
use Rattle.flow_doacross.specs.Views.{elements_of, near_distance}
use Rattle.flow_doacross.proofs.distances.near_distance.Given as goal

-- the numbers so far, and those of the elements that are left
abbrev pub invariant-loop-element : goal.invariant-loop-element
invariant-loop-element l =
    option_map (λ rest. l.distance.items ++ rest) (near_distance (distance_of (elements_of (drop l.element-index l.elements)))) ≡ near_distance (distance_of (elements_of l.elements))
