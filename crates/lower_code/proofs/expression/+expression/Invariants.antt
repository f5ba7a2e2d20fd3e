use Rattle.lower_code.proofs.Values.{Under}
use Rattle.lower_code.proofs.expression.+expression.Given as goal

-- the way over the indexes so far
abbrev pub invariant-place-loop-d : goal.invariant-place-loop-d
invariant-place-loop-d l = Under l.layout l.laid.lengths.items l.subscripts l.d l.at
