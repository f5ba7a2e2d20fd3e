use Rattle.std.proofs.Common.{sym, ap, refl, subst, drop}
use Rattle.std.proofs.lemmas.Result.{IfOk-weaker, IfOk-at_ok}
use Rattle.std.specs.Prelude.{string_bytes, map}
use Rattle.semantics.specs.Tree
use Rattle.ktree.specs.View.{stmt_of, items_of, with_item, start_of, part_of}
use Rattle.ktree.specs.declared.statement.Stmt.{If}
use Rattle.ktree.proofs.Trees.{block_is}
use Rattle.lower_machine.specs.declared.term.Code.{Nothing}
use Rattle.lower_code.specs.Meaning.{MeansStmt, MeansItems}
use Rattle.lower_code.proofs.Whole.{Begun, begun, begun_on, begun_ends, statement_alone, local_alone, line_alone}
use Rattle.lower_code.proofs.statements.+statement.Goals as goal

pub items-loop-entry-init : goal.items-loop-entry-init
items-loop-entry-init t c = begun c.args.layout.now (items_of c.args.list.now) Nothing (λ r. refl)

pub items-loop-entry-preserved : goal.items-loop-entry-preserved
items-loop-entry-preserved t c =
    let p = c.in_ok-before in
    begun_on c.args.layout.now c.args.list.now c.loop-entry.entry-index c.entry-item.result p.before p.next c.in_ok-code.code c.loop-entry-test.true c.entry-item.is
    (subst (Begun c.args.layout.now (items_of c.args.list.now) (items_of (drop c.loop-entry.entry-index c.args.list.now))) (sym p.ensures.before) c.loop-entry.invariant)
    (IfOk-at_ok (MeansItems c.args.layout.now (with_item c.entry-item.result Tree.no_items)) p.ensures.next c.item.ensures) c.in_ok-code.ensures

pub items-returns : goal.items-returns
items-returns t c = begun_ends c.args.layout.now c.args.list.now c.loop-entry.entry-index c.loop-entry.code c.loop-entry-test.false c.loop-entry.invariant

pub item-returns-in-Directive : goal.item-returns-in-Directive
item-returns-in-Directive t c =
    subst (λ i. MeansItems c.args.layout.now (with_item i Tree.no_items) Nothing) (sym c.in-Directive.is) (line_alone c.args.layout.now c.in-Directive._place.line Nothing (λ r. refl))

pub item-returns-in-Local : goal.item-returns-in-Local
item-returns-in-Local t c =
    let layout = c.args.layout.now in
    let l = c.in-Local.local in
    IfOk-weaker c.declare.result _ _ (λ r means. subst (λ i. MeansItems layout (with_item i Tree.no_items) r) (sym c.in-Local.is) (local_alone layout l.variable.0 (string_bytes l.name) (start_of l.start) r means)) c.declare.ensures

pub item-returns-in-Statement : goal.item-returns-in-Statement
item-returns-in-Statement t c =
    let layout = c.args.layout.now in
    IfOk-weaker c.statement.result _ _ (λ r means. subst (λ i. MeansItems layout (with_item i Tree.no_items) r) (sym c.in-Statement.is) (statement_alone layout (stmt_of c.in-Statement.stmt.value) r (subst (λ e. MeansStmt layout (stmt_of e) r) c.deref.ensures means))) c.statement.ensures

pub statement-returns-in-Assign : goal.statement-returns-in-Assign
statement-returns-in-Assign t c =
    IfOk-weaker c.assignment.result _ _ (λ r means. subst (λ e. MeansStmt c.args.layout.now (stmt_of e) r) (sym c.in-Assign.is) means) c.assignment.ensures

pub statement-returns-in-Update : goal.statement-returns-in-Update
statement-returns-in-Update t c =
    IfOk-weaker c.compound_assignment.result _ _ (λ r means. subst (λ e. MeansStmt c.args.layout.now (stmt_of e) r) (sym c.in-Update.is) means) c.compound_assignment.ensures

pub statement-returns-in-None : goal.statement-returns-in-None
statement-returns-in-None t c =
    let layout = c.args.layout.now in
    let a = subst (λ e. MeansStmt layout (stmt_of e) c.in_ok-a-in-If.a) c.deref.ensures c.in_ok-a-in-If.ensures in
    let same = ap (λ o. stmt_of (If c.in-If.c c.in-If.a o)) c.in-None.is in
    IfOk-weaker c.choice.result _ _ (λ r chosen. subst (λ e. MeansStmt layout (stmt_of e) r) (sym c.in-If.is) (subst (λ e. MeansStmt layout e r) (sym same) (chosen (stmt_of c.in-If.a.value) a (λ r. refl)))) c.choice.ensures.alone

pub statement-returns-in_ok-a-in-Some : goal.statement-returns-in_ok-a-in-Some
statement-returns-in_ok-a-in-Some t c =
    let layout = c.args.layout.now in
    let p = c.in_ok-a-in-Some in
    let a = subst (λ e. MeansStmt layout (stmt_of e) p.a) c.deref.ensures (subst (MeansStmt layout (stmt_of c.deref.result.now)) (sym p.ensures.before) c.in_ok-a-in-If.ensures) in
    let b = subst (λ e. MeansStmt layout (stmt_of e) p.b) c.deref-in-Some.ensures (IfOk-at_ok (MeansStmt layout (stmt_of c.deref-in-Some.result.now)) p.ensures.next c.statement-in-Some.ensures) in
    let same = ap (λ o. stmt_of (If c.in-If.c c.in-If.a o)) c.in-Some.is in
    IfOk-weaker c.choice-in-Some.result _ _ (λ r chosen. subst (λ e. MeansStmt layout (stmt_of e) r) (sym c.in-If.is) (subst (λ e. MeansStmt layout e r) (sym same) (chosen (stmt_of c.in-If.a.value) (stmt_of c.in-Some.b.value) a b))) c.choice-in-Some.ensures.either

pub statement-returns-in_ok-body-in-For : goal.statement-returns-in_ok-body-in-For
statement-returns-in_ok-body-in-For t c =
    let layout = c.args.layout.now in
    let body = subst (λ e. MeansStmt layout (stmt_of e) c.in_ok-body-in-For.body) c.deref-in-For.ensures c.in_ok-body-in-For.ensures in
    IfOk-weaker c.whole_loop.result _ _ (λ r means. subst (λ e. MeansStmt layout (stmt_of e) r) (sym c.in-For.is) (means (stmt_of c.in-For.body.value) body)) c.whole_loop.ensures

pub statement-returns-in-Block : goal.statement-returns-in-Block
statement-returns-in-Block t c =
    let layout = c.args.layout.now in
    IfOk-weaker c.items.result _ _ (λ r does. subst (λ e. MeansStmt layout e r) (sym (block_is c.args.stmt.now c.in-Block.list _ c.in-Block.is c.deref-in-Block.ensures.value)) does) c.items.ensures

pub statement-returns-in-Print : goal.statement-returns-in-Print
statement-returns-in-Print t c =
    let layout = c.args.layout.now in
    IfOk-weaker c.print.result _ _ (λ r means. subst (λ e. MeansStmt layout (stmt_of e) r) (sym c.in-Print.is) (subst (λ ps. MeansStmt layout (Tree.Print (map part_of ps)) r) c.deref-in-Print.ensures.value means)) c.print.ensures
