-- The reduction variables of a line, and what their clauses say of them.
use Rattle.std.specs.Prelude.{List, map}
use Rattle.semantics.specs.Tree.{Variable}
use Rattle.semantics.specs.Loops.Operator.{ReduceOp}
use Rattle.ktree.specs.DirectiveView.{operator_of}
use Rattle.flow_reduction.specs.declared.reduction.Reduction.{Reduction}

-- a variable with its operator
abbrev pub reduction_of : Reduction → Variable × ReduceOp
reduction_of r = (r.variable.0, operator_of r.operator)

-- all of them
abbrev pub reduced : List Reduction → List (Variable × ReduceOp)
reduced rs = map reduction_of rs
