use Rattle.std.proofs.Common.{◌≡◌, ℤ, ◌^◌, subst}
use mir.Syntax.{w128}
use Rattle.std.proofs.lemmas.Int.{to_z-of_z}
use Rattle.affine.specs.Limits.{IsWithin}
use Rattle.ktree.specs.declared.refusal.Refusal.TheVariants as refusals
use Rattle.affine_expr.proofs.Keeping.{refused_number}
use Rattle.affine_expr.proofs.kept.number.Goals as goal

pub returns-in-Err-clause-err : goal.returns-in-Err-clause-err
returns-in-Err-clause-err c =
    refused_number c.args.place c.args.value c.in-Err.refusal c.fault_of_refusal.result
    (subst (λ (n : ℤ). (c.in-Err.refusal ≡ refusals.Limit c.args.place) × (¬ (IsWithin (2 ^ 62) n))) (to_z-of_z w128 c.args.value c.ranges.value) c.in-Err.ensures.refusal)
    c.fault_of_refusal.ensures.limit
