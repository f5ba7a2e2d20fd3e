use Rattle.std.specs.Prelude.{OnOk, IfErr}
use Rattle.std.proofs.Common.{sym, subst}
use Rattle.semantics.specs.Tree.{Expr}
use Rattle.ktree.proofs.Trees.{object_is}
use Rattle.pairtest_access.specs.Sites.{expr_sites}
use Rattle.pairtest_access.specs.Refused.{Because, Lacks}
use Rattle.pairtest_access.specs.Walk.{MeetsAll}
use Rattle.pairtest_access.proofs.expressions.+expression.Goals as goal

pub expr-returns-in-Object-clause-ok : goal.expr-returns-in-Object-clause-ok
expr-returns-in-Object-clause-ok t c =
    subst (λ (e : Expr). OnOk c.meet.result (MeetsAll c.args.finder.now (expr_sites c.args.chain.now e) c.meet.new.self))
    (sym (object_is c.args.expression.now c.in-Object.variable c.in-Object.subscripts c.in-Object.mention _ c.in-Object.is c.as_slice.ensures.value)) c.meet.ensures.ok

pub expr-returns-in-Object-clause-err : goal.expr-returns-in-Object-clause-err
expr-returns-in-Object-clause-err t c =
    subst (λ (e : Expr). IfErr c.meet.result (Because (Lacks (expr_sites c.args.chain.now e))))
    (sym (object_is c.args.expression.now c.in-Object.variable c.in-Object.subscripts c.in-Object.mention _ c.in-Object.is c.as_slice.ensures.value)) c.meet.ensures.err
