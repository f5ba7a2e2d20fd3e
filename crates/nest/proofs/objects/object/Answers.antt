use Rattle.std.specs.Prelude.{ℕ, List}
use Rattle.std.proofs.Common.{subst}
use Rattle.ktree.specs.View.{exprs_of}
use Rattle.nest.specs.Leaves.{SomeLeaves}
use Rattle.nest.proofs.Leaving.{not_as_many}
use Rattle.nest.proofs.objects.object.Goals as goal

pub returns-then-lengths-subscripts-clause-leaves : goal.returns-then-lengths-subscripts-clause-leaves
returns-then-lengths-subscripts-clause-leaves c =
    subst (λ (ns : List ℕ). SomeLeaves c.args.bounds.now ns (exprs_of c.args.subscripts.now)) c.lengths-lengths.ensures
    (not_as_many c.args.bounds.now c.lengths-lengths.result.now c.args.subscripts.now c.if-lengths-subscripts.true)
