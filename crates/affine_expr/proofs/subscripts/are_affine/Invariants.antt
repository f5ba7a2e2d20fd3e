use Rattle.std.proofs.Common.{◌≡◌, drop}
use Rattle.ktree.specs.View.{exprs_of}
use Rattle.affine_expr.specs.Forms.{are_affine}
use Rattle.affine_expr.proofs.subscripts.are_affine.Given as goal

-- the subscripts that are left decide
abbrev pub invariant-loop-i : goal.invariant-loop-i
invariant-loop-i l = are_affine l.bounds (exprs_of (drop l.i l.subscripts)) ≡ are_affine l.bounds (exprs_of l.subscripts)
