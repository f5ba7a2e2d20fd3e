use Rattle.std.proofs.Common.{◌≡◌, drop, map}
use Rattle.semantics.specs.Meaning.Agrees.{names_parts}
use Rattle.law_roles.specs.Updates.{is_plain}
use Rattle.ktree.specs.View.{part_of}
use Rattle.flow_reduction.specs.Reduced.{reduced}
use Rattle.flow_reduction.proofs.naming.named_in_parts.Given as goal

-- those that are left decide
abbrev pub invariant-loop-part : goal.invariant-loop-part
invariant-loop-part l = names_parts (is_plain (reduced l.reductions)) (map part_of (drop l.part-index l.parts)) ≡ names_parts (is_plain (reduced l.reductions)) (map part_of l.parts)
