use Rattle.std.proofs.Common.{◌≡◌, drop, map}
use Rattle.semantics.specs.Meaning.Agrees.{names_parts}
use Rattle.ktree.specs.View.{part_of}
use Rattle.pragma_mention.specs.Sets.{holds}
use Rattle.pragma_mention.proofs.expressions.parts.Given as goal

-- those that are left decide
abbrev pub invariant-loop-one : goal.invariant-loop-one
invariant-loop-one l = names_parts (holds l.known) (map part_of (drop l.one-index l.printed)) ≡ names_parts (holds l.known) (map part_of l.printed)
