use Rattle.std.proofs.Common.{◌≤◌, List, length, refl, sym, subst, arith}
use Rattle.affine.specs.declared.term.Term.{Term}
use Rattle.affine_expr.proofs.Keeping.{kept-tested, kept-large, kept-many}
use Rattle.affine_expr.proofs.kept.keep_limits.Goals as goal
use Rattle.affine_expr.proofs.kept.keep_limits.Goals.{else-is_within-via-then-is_within+else-terms-le-AFFINE_VARIABLES, else-is_within-via-else-is_within}

pub returns-then-terms-le-AFFINE_VARIABLES-clause-ok : goal.returns-then-terms-le-AFFINE_VARIABLES-clause-ok
returns-then-terms-le-AFFINE_VARIABLES-clause-ok c =
    kept-tested c.args.form (c.if-is_within.ensures.0 refl) (subst (λ (ts : List Term). length ts ≤ 32) c.terms.ensures.value c.if-terms-le-AFFINE_VARIABLES.true)

pub returns-else-is_within-clause-err : goal.returns-else-is_within-clause-err
returns-else-is_within-clause-err c =
    elim c.else-is_within.branch [
      | else-is_within-via-then-is_within+else-terms-le-AFFINE_VARIABLES w ↦ (
        refl,
        kept-many c.args.form (λ h.
            let few : length w.terms.result.now ≤ 32 = subst (λ (ts : List Term). length ts ≤ 32) (sym w.terms.ensures.value) h in omega (arith, w.if-terms-le-AFFINE_VARIABLES)),
      )
      | else-is_within-via-else-is_within w ↦ (refl, kept-large c.args.form (λ h. let t = w.if-is_within.ensures.1 h in cc t))
    ]
