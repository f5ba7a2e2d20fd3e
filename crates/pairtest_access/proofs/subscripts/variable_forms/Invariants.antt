use Rattle.std.proofs.Common.{◌≡◌, Some, take}
use Rattle.ktree.specs.View.{exprs_of}
use Rattle.affine_expr.specs.Forms.{form_of}
use Rattle.pairtest_access.specs.Found.{AreEach}
use Rattle.pairtest_access.proofs.subscripts.variable_forms.Given as goal

-- the forms so far
abbrev pub invariant-loop-i : goal.invariant-loop-i
invariant-loop-i l = AreEach (λ e f. form_of l.chain.box e ≡ Some f) (exprs_of (take l.i l.expressions)) l.found.items
