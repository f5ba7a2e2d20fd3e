use Rattle.std.proofs.Common.{◌≡◌, drop, map}
use Rattle.semantics.specs.Meaning.Definite.{may_print}
use Rattle.ktree.specs.View.{part_of}
use Rattle.flow_definite.specs.Judged.{known_of}
use Rattle.flow_definite.proofs.reading.read_parts.Given as goal

-- all depends on what is left
abbrev pub invariant-loop-part : goal.invariant-loop-part
invariant-loop-part l =
    may_print (known_of l.known) (map part_of l.parts)
    ≡ may_print (known_of l.known) (map part_of (drop l.part-index l.parts))
