use Rattle.lower_code.proofs.Printing.{Printed}
use Rattle.lower_code.proofs.statements.pieces.Given as goal

-- the parts so far, and those that are left
abbrev pub invariant-loop-part : goal.invariant-loop-part
invariant-loop-part l = Printed l.layout l.parts l.part-index l.pieces.items
