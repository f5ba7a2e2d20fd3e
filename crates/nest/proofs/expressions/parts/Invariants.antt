use Rattle.std.specs.Prelude.{◌↔◌, map, drop}
use Rattle.ktree.specs.View.{part_of}
use Rattle.nest.specs.Nests.{IsAffine, PartsHave}
use Rattle.nest.specs.Judged.{inside_of, out_of}
use Rattle.nest.proofs.Leaving.{PartsSoFar}
use Rattle.nest.proofs.expressions.parts.Given as goal

-- the parts that are left decide, and what is told of those before them
abbrev pub invariant-loop-part : goal.invariant-loop-part
invariant-loop-part l =
    (PartsHave IsAffine l.bounds (map part_of (drop l.part-index l.parts)) ↔ PartsHave IsAffine l.bounds (map part_of l.parts))
    × PartsSoFar (inside_of l.variables) (out_of l.variables) l.bounds l.parts l.part-index l.leaves
