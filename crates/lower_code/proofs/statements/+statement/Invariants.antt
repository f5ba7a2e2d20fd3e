use Rattle.std.proofs.Common.{drop}
use Rattle.ktree.specs.View.{items_of}
use Rattle.lower_code.proofs.Whole.{Begun}
use Rattle.lower_code.proofs.statements.+statement.Given as goal

-- the items so far, and those that are left
abbrev pub invariant-items-loop-entry : goal.invariant-items-loop-entry
invariant-items-loop-entry l = Begun l.layout (items_of l.list) (items_of (drop l.entry-index l.list)) l.code
