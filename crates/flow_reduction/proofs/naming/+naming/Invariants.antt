use Rattle.std.proofs.Common.{◌≡◌, drop}
use Rattle.semantics.specs.Meaning.Agrees.{names_exprs}
use Rattle.law_roles.specs.Updates.{is_plain}
use Rattle.ktree.specs.View.{exprs_of}
use Rattle.flow_reduction.specs.Reduced.{reduced}
use Rattle.flow_reduction.proofs.naming.+naming.Given as goal

-- those that are left decide
abbrev pub invariant-named_in_subscripts-loop-subscript : goal.invariant-named_in_subscripts-loop-subscript
invariant-named_in_subscripts-loop-subscript l =
    names_exprs (is_plain (reduced l.reductions)) (exprs_of (drop l.subscript-index l.subscripts)) ≡ names_exprs (is_plain (reduced l.reductions)) (exprs_of l.subscripts)
