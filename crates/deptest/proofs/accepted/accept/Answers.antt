use Rattle.std.proofs.Common.{rules, subst}
use Rattle.ktree.specs.View.{kernel_of}
use Rattle.deptest.specs.Accepted.{AreOrderedBy}
use Rattle.deptest.proofs.Keeping.{has_nests, keeps_all}
use Rattle.deptest.proofs.accepted.accept.Goals as goal

pub check-requires-clause-passed : goal.check-requires-clause-passed
check-requires-clause-passed c = has_nests c.args.text.now c.args.directives.now (kernel_of c.args.kernel) _ _ _ c.as_slice-nests.result.now c.requires.lines c.as_slice-nests.ensures.value c.requires.passed

pub invariant_of-result : goal.invariant_of-result
invariant_of-result c =
    let ordered = subst (λ nests. AreOrderedBy c.args.directives.now (kernel_of c.args.kernel) nests) c.as_slice-nests.ensures.value c.in_ok-check.ensures.ok in
    keeps_all c.args.text.now _ c.args.directives.now c.args.kernel _ _ _ _ c.requires.lines (search rules) c.requires.passed c.requires.regions ordered
