use Rattle.std.proofs.Common.{map, take}
use Rattle.ktree.specs.View.{part_of}
use Rattle.pairtest_access.specs.Sites.{part_sites}
use Rattle.pairtest_access.specs.Walk.{MeetsAll}
use Rattle.pairtest_access.proofs.expressions.parts.Given as goal

-- the arguments so far are walked
abbrev pub invariant-loop-printed : goal.invariant-loop-printed
invariant-loop-printed l = MeetsAll l.initial.finder (part_sites l.chain (map part_of (take l.printed-index l.parts))) l.finder
