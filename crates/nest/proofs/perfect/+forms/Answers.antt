use Rattle.std.specs.Prelude.{◌-◌, List, []}
use Rattle.std.proofs.Common.{inr, sym, subst, ◌∙◌}
use Rattle.std.proofs.lemmas.Result.{err_from_is_err_and}
use Rattle.ktree.specs.View.{stmt_of}
use Rattle.nest_loop.specs.declared.head.Canonical.{Canonical}
use Rattle.nest.specs.Heads.{head_of}
use Rattle.nest.specs.Perfect.{AreRectangular}
use Rattle.nest.proofs.PerfectLaw.{pred_is, no_loops, nest_down, nest_up, no_level, passed_on, told_so, no_head, rectangular_head, rectangular_rest, rectangular_more, insert_first}
use Rattle.nest.proofs.perfect.+forms.Goals as goal

pub returns-then-depth-eq0-clause-ok : goal.returns-then-depth-eq0-clause-ok
returns-then-depth-eq0-clause-ok t c =
    no_loops (λ loops. AreRectangular c.args.bounds.now loops c.new.result.items) c.args.depth (stmt_of c.args.statement.now) c.if-depth-eq0.true
    (subst (AreRectangular c.args.bounds.now []) (sym c.new.ensures.items) tt)

pub returns-in_default-clause-err : goal.returns-in_default-clause-err
returns-in_default-clause-err t c =
    let n = c.args.depth in
    inr (no_level (λ loops. (ls : List Canonical) × AreRectangular c.args.bounds.now loops ls) n (n - 1) (stmt_of c.args.statement.now) (pred_is n c.if-depth-eq0.false) c.in_default.ensures)

pub returns-in-Err-clause-err : goal.returns-in-Err-clause-err
returns-in-Err-clause-err t c =
    let n = c.args.depth in
    let box = c.args.bounds.now in
    let b = stmt_of c.in-Some.level.body.now in
    let h = head_of c.in-Some.level.head.now in
    told_so c.form_fault.ensures
    (λ k. rectangular_head box h (n - 1) b
    (nest_down (λ loops. (ls : List Canonical) × AreRectangular box loops ls) n (n - 1) (stmt_of c.args.statement.now) b h (pred_is n c.if-depth-eq0.false) c.in-Some.ensures k))
    (no_head box h c.in-Err.ensures.err)

pub returns-in_err-forms-clause-err : goal.returns-in_err-forms-clause-err
returns-in_err-forms-clause-err t c =
    let n = c.args.depth in
    let box = c.args.bounds.now in
    let b = stmt_of c.in-Some.level.body.now in
    let h = head_of c.in-Some.level.head.now in
    let p = err_from_is_err_and c.from_residual.result c.from_residual.ensures.1 in
    rw (p.1, p.2)
    (passed_on
    (λ k. rectangular_rest box h (n - 1) b
    (nest_down (λ loops. (ls : List Canonical) × AreRectangular box loops ls) n (n - 1) (stmt_of c.args.statement.now) b h (pred_is n c.if-depth-eq0.false) c.in-Some.ensures k))
    c.in_err-forms.ensures.err)

pub returns-clause-ok : goal.returns-clause-ok
returns-clause-ok t c =
    let n = c.args.depth in
    let box = c.args.bounds.now in
    let b = stmt_of c.in-Some.level.body.now in
    let h = head_of c.in-Some.level.head.now in
    nest_up (λ loops. AreRectangular box loops c.insert.new.self.items) n (n - 1) (stmt_of c.args.statement.now) b h (pred_is n c.if-depth-eq0.false) c.in-Some.ensures
    (rectangular_more box h c.in-Ok.canonical (n - 1) b c.in_ok-forms.forms.items c.insert.new.self.items c.in-Ok.ensures.ok
    (c.in_ok-insert.ensures.items ∙ insert_first c.in_ok-forms.forms.items c.in-Ok.canonical) c.in_ok-forms.ensures.ok)
