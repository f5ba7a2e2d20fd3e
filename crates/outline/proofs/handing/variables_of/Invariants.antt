use Rattle.outline.specs.Handed.{ListsLocals}
use Rattle.outline.proofs.handing.variables_of.Given as goal

abbrev pub invariant-loop-number : goal.invariant-loop-number
invariant-loop-number l = ListsLocals l.number l.bounds l.variables.items
