use Rattle.std.proofs.Common.{take}
use Rattle.ktree.specs.View.{exprs_of}
use Rattle.pairtest_access.specs.Found.{AreEach, IsSubscript}
use Rattle.pairtest_access.proofs.subscripts.subscripts.Given as goal

-- the subscripts so far
abbrev pub invariant-loop-i : goal.invariant-loop-i
invariant-loop-i l = AreEach (IsSubscript l.chain) (exprs_of (take l.i l.expressions)) l.found.items
