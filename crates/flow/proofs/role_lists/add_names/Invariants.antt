use Rattle.std.proofs.Common.{◌≡◌, ◌++◌, map, drop}
use Rattle.semantics.specs.Tree.{Variable}
use Rattle.semantics.specs.Loops.Operator.{ReduceOp}
use Rattle.ktree.specs.DirectiveView.{operator_of}
use Rattle.pragma_named.specs.Views.{variable_named}
use Rattle.flow_reduction.specs.Reduced.{reduced}
use Rattle.flow.proofs.role_lists.add_names.Given as goal

-- with the names that are left they are all
abbrev pub invariant-loop-name : goal.invariant-loop-name
invariant-loop-name l =
    reduced l.reductions.items ++ map {B = Variable × ReduceOp} (λ x. (x, operator_of l.operator)) (map variable_named (drop l.name-index l.names))
    ≡ reduced l.fn.reductions.items ++ map {B = Variable × ReduceOp} (λ x. (x, operator_of l.operator)) (map variable_named l.names)
