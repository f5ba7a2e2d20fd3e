use Rattle.std.proofs.Common.{◌≡◌, drop, map}
use Rattle.semantics.specs.Meaning.Agrees.{names_parts}
use Rattle.ktree.specs.View.{part_of}
use Rattle.flow_scan.specs.Views.{is_spared}
use Rattle.flow_scan.proofs.reading.in_parts.Given as goal

-- those that are left decide
abbrev pub invariant-loop-part : goal.invariant-loop-part
invariant-loop-part l = names_parts (is_spared l.set l.but.0) (map part_of (drop l.part-index l.parts)) ≡ names_parts (is_spared l.set l.but.0) (map part_of l.parts)
