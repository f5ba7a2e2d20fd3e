use Rattle.std.proofs.Common.{◌≡◌, ◌++◌, map, drop}
use Rattle.flow_doacross.specs.Bodies.{distance_of}
use Rattle.flow_doacross.specs.Listed.{near}
use Rattle.flow_doacross.specs.Views.{sinks_on, distance_kept}
use Rattle.flow_doacross.proofs.distances.distances_among.Given as goal

-- what is added so far, and what the items that are left add
abbrev pub invariant-loop-item : goal.invariant-loop-item
invariant-loop-item l =
    map distance_kept l.distances.items ++ near (map distance_of (sinks_on l.directives (drop l.item-index l.items))) ≡ near (map distance_of (sinks_on l.directives l.items))
