use Rattle.pragma.proofs.PlainLaw.{Left}
use Rattle.pragma.proofs.placed.+statement.Given as goal

-- the items that are left decide
abbrev pub invariant-items_fault-loop-i : goal.invariant-items_fault-loop-i
invariant-items_fault-loop-i l = Left l.directives l.items l.i
