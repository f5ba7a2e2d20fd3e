use Rattle.lower_code.proofs.Laying.{Laying}
use Rattle.lower_code.proofs.layout.layout_of.Given as goal

-- the variables so far
abbrev pub invariant-loop-declaration : goal.invariant-loop-declaration
invariant-loop-declaration l = Laying l.declarations l.declaration-index l.layout.items l.first
