use Rattle.std.proofs.Common.{sym, subst, ◌≡◌}
use Rattle.std.proofs.lemmas.Result.{IfOk-weaker, IfOk-at_ok}
use Rattle.ktree.specs.View.{cond_of}
use Rattle.lower_machine.specs.declared.term.Code.{Code}
use Rattle.lower_machine.specs.Machine.{Running, after}
use Rattle.lower_code.specs.Meaning.{MeansTest, MeansStmt}
use Rattle.lower_code.proofs.Whole.{if_means, if_else_means}
use Rattle.lower_code.proofs.statements.choice.Goals as goal

pub returns-clause-alone : goal.returns-clause-alone
returns-clause-alone c =
    let layout = c.args.layout.now in
    let p = c.in_ok-arms in
    let tests = IfOk-at_ok (MeansTest layout (cond_of c.args.c.now)) p.ensures.next c.test.ensures in
    IfOk-weaker c.branch-alloc.result _ _ (λ r chooses x mx none.
    if_means layout (cond_of c.args.c.now) x p.c p.arms.0 p.arms.1 r tests
    (subst (λ (y : Code × Code). MeansStmt layout x y.0) (sym p.ensures.before) mx)
    (subst (λ (y : Code × Code). (r : Running) → after y.1 r ≡ r) (sym p.ensures.before) none) chooses) c.branch-alloc.ensures

pub returns-clause-either : goal.returns-clause-either
returns-clause-either c =
    let layout = c.args.layout.now in
    let p = c.in_ok-arms in
    let tests = IfOk-at_ok (MeansTest layout (cond_of c.args.c.now)) p.ensures.next c.test.ensures in
    IfOk-weaker c.branch-alloc.result _ _ (λ r chooses x y mx my.
    if_else_means layout (cond_of c.args.c.now) x y p.c p.arms.0 p.arms.1 r tests
    (subst (λ (z : Code × Code). MeansStmt layout x z.0) (sym p.ensures.before) mx)
    (subst (λ (z : Code × Code). MeansStmt layout y z.1) (sym p.ensures.before) my) chooses) c.branch-alloc.ensures
