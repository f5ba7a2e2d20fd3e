use Rattle.affine_expr.proofs.Keeping.{refused_form}
use Rattle.affine_expr.proofs.kept.sum.Goals as goal

pub returns-in-Err-clause-err : goal.returns-in-Err-clause-err
returns-in-Err-clause-err c = refused_form c.args.place _ c.in-Err.refusal c.fault_of_refusal.result c.in-Err.ensures.refusal c.fault_of_refusal.ensures.limit c.fault_of_refusal.ensures.memory
