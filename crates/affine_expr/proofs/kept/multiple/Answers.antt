use Rattle.std.proofs.Common.{ℤ, w64, subst}
use Rattle.std.proofs.lemmas.Int.{to_z-of_z}
use Rattle.affine.specs.Arithmetic.{multiple_form}
use Rattle.affine.specs.Limits.{Refuses}
use Rattle.affine_expr.proofs.Keeping.{refused_form}
use Rattle.affine_expr.proofs.kept.multiple.Goals as goal

pub returns-in-Err-clause-err : goal.returns-in-Err-clause-err
returns-in-Err-clause-err c =
    refused_form c.args.place (multiple_form c.args.form.now c.args.factor) c.in-Err.refusal c.fault_of_refusal.result
    (subst (λ (n : ℤ). Refuses c.args.place (multiple_form c.args.form.now n) c.in-Err.refusal) (to_z-of_z w64 c.args.factor c.ranges.factor) c.in-Err.ensures.refusal)
    c.fault_of_refusal.ensures.limit c.fault_of_refusal.ensures.memory
