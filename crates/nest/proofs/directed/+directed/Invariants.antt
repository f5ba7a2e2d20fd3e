use Rattle.std.specs.Prelude.{◌≡◌}
use Rattle.nest.proofs.Along.{SoFar}
use Rattle.nest.proofs.directed.+directed.Given as goal

-- the box is as it was; and what is left of the facts are those of the items that are left, which decide
abbrev pub invariant-block-loop-i : goal.invariant-block-loop-i
invariant-block-loop-i l = (l.bounds ≡ l.initial.bounds) × SoFar l.directives l.initial.bounds l.items l.i l.found.loops.now l.left.loops.now
