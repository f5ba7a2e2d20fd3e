use Rattle.std.specs.Prelude.{◌≡◌, OnOk, IfOk, IfErr, Option, Some, None}
use Rattle.std.proofs.Common.{Box, Global, sym, ap, ◌∙◌, subst, rules, drop}
use Rattle.std.proofs.lemmas.Result.{on_ok_weaker, err_from_is_err_and}
use Rattle.semantics.specs.Tree.{Stmt, If, IfElse, no_items}
use Rattle.ktree.specs.View.{stmt_of, cond_of, exprs_of, expr_of, binary_of, with_item}
use Rattle.ktree.specs.declared.expression.Cond.{Cond}
use Rattle.ktree.specs.declared.statement.Stmt as code
use Rattle.ktree.specs.declared.statement.Item.{the_lemmas}
use Rattle.ktree.proofs.Trees.{block_is}
use Rattle.pairtest_counter.specs.Levels.{Nesting}
use Rattle.pairtest_access.specs.Refused.{Because, IsStuck, AreStuck}
use Rattle.nest_loop.specs.Facts.{FactsOf, FactsAmong, StandFirst, StandFirstAmong, IsLeft}
use Rattle.nest_loop.proofs.Standing.{next_first, left_more}
use Rattle.pairtest_access.proofs.Walks.{Goes, Walked, next_item, item_stuck, update_walked, if_walked, if_else_walked, for_is, loop_entered, loop_walked, loop_stuck, loop_passed, some_loop, left}
use Rattle.pairtest_access.proofs.statements.+statement.Goals as goal

-- the selections that a statement is
if_is : (s : code.Stmt) (c : Cond) (then : Box code.Stmt Global) (other : Option (Box code.Stmt Global)) (inner : code.Stmt) → s ≡ code.If c then other → other ≡ None → inner ≡ then.value
    → If (cond_of c) (stmt_of inner) ≡ stmt_of s
if_is s c then other inner e g f = ap (λ i. If (cond_of c) (stmt_of i)) f ∙ sym (ap stmt_of (e ∙ ap (code.If c then) g))

if_else_is : (s : code.Stmt) (c : Cond) (then : Box code.Stmt Global) (other : Option (Box code.Stmt Global)) (els : Box code.Stmt Global) (inner outer : code.Stmt) → s ≡ code.If c then other
    → other ≡ Some els → inner ≡ then.value → outer ≡ els.value → IfElse (cond_of c) (stmt_of inner) (stmt_of outer) ≡ stmt_of s
if_else_is s c then other els inner outer e g f h =
    ap (λ i. IfElse (cond_of c) (stmt_of i) (stmt_of outer)) f ∙ ap (λ i. IfElse (cond_of c) (stmt_of then.value) (stmt_of i)) h ∙ sym (ap stmt_of (e ∙ ap (code.If c then) g))

pub block-loop-item-preserved : goal.block-loop-item-preserved
block-loop-item-preserved t c =
    let n = c.args.chain.now in
    let e = c.item-item.result in (
      c.in_ok-left.ensures.back ∙ c.loop-item.invariant.0,
      next_item n c.args.items.now c.loop-item.item-index e c.args.finder.now c.loop-item.finder c.one_item.new.finder c.loop-item-test.true c.item-item.is c.loop-item.invariant.1
          (subst (λ (m : Nesting). Walked m (with_item e no_items) c.loop-item.finder c.one_item.new.finder) c.loop-item.invariant.0 c.in_ok-left.ensures.ok),
      left_more n.box c.args.items.now c.loop-item.item-index e c.args.loops.now c.loop-item.left.now c.in_ok-left.left.now c.loop-item-test.true c.item-item.is c.loop-item.invariant.2
          (subst (λ (m : Nesting). IsLeft (FactsAmong m.box (with_item e no_items) c.loop-item.left.now) c.in_ok-left.left.now) c.loop-item.invariant.0 c.in_ok-left.ensures.left),
    )

pub statement-returns-in-None-clause-ok : goal.statement-returns-in-None-clause-ok
statement-returns-in-None-clause-ok t c =
    let n = c.args.chain.now in
    subst (λ (s : Stmt). Goes n s c.args.finder.now c.statement.new.finder)
    (if_is c.args.walked.now c.in-If.condition c.in-If.then c.in-If.other c.deref.result.now c.in-If.is c.in-None.is c.deref.ensures)
    (if_walked n (cond_of c.in-If.condition) (stmt_of c.deref.result.now) c.args.finder.now c.cond.new.finder c.statement.new.finder c.in_ok-cond-in-If.ensures.ok c.in_ok-left-in-If.ensures.ok)

pub statement-returns-in-Some-clause-ok : goal.statement-returns-in-Some-clause-ok
statement-returns-in-Some-clause-ok t c =
    let n = c.args.chain.now in
    on_ok_weaker c.statement-in-Some.result
    (λ more.
    subst (λ (s : Stmt). Goes n s c.args.finder.now c.statement-in-Some.new.finder)
    (if_else_is c.args.walked.now c.in-If.condition c.in-If.then c.in-If.other c.in-Some.other c.deref.result.now c.deref-in-Some.result.now c.in-If.is c.in-Some.is c.deref.ensures
    c.deref-in-Some.ensures)
    (if_else_walked n (cond_of c.in-If.condition) (stmt_of c.deref.result.now) (stmt_of c.deref-in-Some.result.now) c.args.finder.now c.cond.new.finder c.statement.new.finder
    c.statement-in-Some.new.finder c.in_ok-cond-in-If.ensures.ok c.in_ok-left-in-If.ensures.ok
    (subst (λ (m : Nesting). Goes m (stmt_of c.deref-in-Some.result.now) c.statement.new.finder c.statement-in-Some.new.finder) c.in_ok-left-in-If.ensures.back more)))
    c.statement-in-Some.ensures.ok

pub statement-returns-in-Block-clause-ok : goal.statement-returns-in-Block-clause-ok
statement-returns-in-Block-clause-ok t c =
    subst (λ (s : Stmt). OnOk c.block.result (Goes c.args.chain.now s c.args.finder.now c.block.new.finder))
    (sym (block_is c.args.walked.now c.in-Block.items c.deref-in-Block.result.now c.in-Block.is c.deref-in-Block.ensures.value)) c.block.ensures.ok

pub block-returns-in_err-left-clause-err : goal.block-returns-in_err-left-clause-err
block-returns-in_err-left-clause-err t c =
    let fault = c.in_err-left.field-0.0 in
    let p = err_from_is_err_and c.from_residual.result c.from_residual.ensures.1 in
    rw (p.1, p.2)
    (item_stuck c.args.chain.now c.args.items.now c.loop-item.item-index c.item-item.result fault c.loop-item-test.true c.item-item.is
    (subst (λ (n : Nesting). Because (AreStuck n (with_item c.item-item.result no_items)) fault) c.loop-item.invariant.0 c.in_err-left.ensures.err))

pub statement-returns-in-Block-clause-err : goal.statement-returns-in-Block-clause-err
statement-returns-in-Block-clause-err t c =
    subst (λ (s : Stmt). IfErr c.block.result (Because (IsStuck c.args.chain.now s)))
    (sym (block_is c.args.walked.now c.in-Block.items c.deref-in-Block.result.now c.in-Block.is c.deref-in-Block.ensures.value)) c.block.ensures.err

pub statement-returns-in-Block-clause-left : goal.statement-returns-in-Block-clause-left
statement-returns-in-Block-clause-left t c =
    subst (λ (s : Stmt). IfOk c.block.result (λ passed. IsLeft (FactsOf c.args.chain.now.box s c.args.loops.now) passed.now))
    (sym (block_is c.args.walked.now c.in-Block.items c.deref-in-Block.result.now c.in-Block.is c.deref-in-Block.ensures.value)) c.block.ensures.left

pub block-one_item-requires : goal.block-one_item-requires
block-one_item-requires t c = (
  search (rules, the_lemmas),
  subst (λ (m : Nesting). StandFirstAmong m.box (with_item c.item-item.result no_items) c.loop-item.left.now) (sym c.loop-item.invariant.0)
      (next_first c.args.chain.now.box c.args.items.now c.loop-item.item-index c.item-item.result c.args.loops.now c.loop-item.left.now c.loop-item-test.true c.item-item.is c.loop-item.invariant.2
      c.requires),
)

pub statement-block-requires : goal.statement-block-requires
statement-block-requires t c = (
  search (rules, the_lemmas),
  subst (λ (s : Stmt). StandFirst c.args.chain.now.box s c.args.loops.now)
      (block_is c.args.walked.now c.in-Block.items c.deref-in-Block.result.now c.in-Block.is c.deref-in-Block.ensures.value) c.requires,
)

pub statement-returns-in_ok-expr-in-Update-clause-ok : goal.statement-returns-in_ok-expr-in-Update-clause-ok
statement-returns-in_ok-expr-in-Update-clause-ok t c =
    let n = c.args.chain.now in
    let to = c.in-Update.assigned in
    subst (λ (s : code.Stmt). Goes n (stmt_of s) c.args.finder.now c.expr.new.finder) (sym c.in-Update.is)
    (update_walked n to.variable.0 (exprs_of to.subscripts.items) (binary_of c.in-Update.field-1) (expr_of c.in-Update.value) c.args.finder.now c.target-in-Update.new.finder c.expr.new.finder
    c.in_ok-target-in-Update.ensures.ok c.in_ok-expr-in-Update.ensures.ok)

pub statement-returns-in_err-left-in-For-clause-err : goal.statement-returns-in_err-left-in-For-clause-err
statement-returns-in_err-left-in-For-clause-err t c =
    let n = c.args.chain.now in
    let head = c.in-For.head in
    let b = c.deref-in-For.result.now in
    let fault = c.in_err-left-in-For.field-0.0 in
    let into = loop_entered n c.enter_loop.new.chain c.args.walked.now head c.in-For.body b c.args.loops.now c.in_ok-inner-in-For.inner.now c.in-For.is c.deref-in-For.ensures c.in_ok-inner-in-For.ensures.ok c.requires in
    let p = err_from_is_err_and c.from_residual-in_err-left-in-For.result c.from_residual-in_err-left-in-For.ensures.1 in
    rw (p.1, p.2)
    (subst (λ (s : Stmt). Because (IsStuck n s) fault) (for_is c.args.walked.now head c.in-For.body b c.in-For.is c.deref-in-For.ensures)
    (loop_stuck n c.enter_loop.new.chain head (stmt_of b) fault into c.in_err-left-in-For.ensures.err))

pub statement-leave-requires : goal.statement-leave-requires
statement-leave-requires t c =
    let n = c.args.chain.now in
    let head = c.in-For.head in
    let b = c.deref-in-For.result.now in
    let into = loop_entered n c.enter_loop.new.chain c.args.walked.now head c.in-For.body b c.args.loops.now c.in_ok-inner-in-For.inner.now c.in-For.is c.deref-in-For.ensures c.in_ok-inner-in-For.ensures.ok c.requires in
    some_loop n c.enter_loop.new.chain c.statement-in-For.new.chain _ _ _ _ _ into c.in_ok-left-in-For.ensures.back

pub statement-returns-in_ok-left-in-For-clause-ok : goal.statement-returns-in_ok-left-in-For-clause-ok
statement-returns-in_ok-left-in-For-clause-ok t c =
    let n = c.args.chain.now in
    let head = c.in-For.head in
    let b = c.deref-in-For.result.now in
    let into = loop_entered n c.enter_loop.new.chain c.args.walked.now head c.in-For.body b c.args.loops.now c.in_ok-inner-in-For.inner.now c.in-For.is c.deref-in-For.ensures c.in_ok-inner-in-For.ensures.ok c.requires in
    subst (λ (s : Stmt). Goes n s c.args.finder.now c.statement-in-For.new.finder) (for_is c.args.walked.now head c.in-For.body b c.in-For.is c.deref-in-For.ensures)
    (loop_walked n c.enter_loop.new.chain head (stmt_of b) c.args.finder.now c.statement-in-For.new.finder into c.in_ok-left-in-For.ensures.ok)

pub statement-returns-in_ok-left-in-For-clause-left : goal.statement-returns-in_ok-left-in-For-clause-left
statement-returns-in_ok-left-in-For-clause-left t c =
    let n = c.args.chain.now in
    let head = c.in-For.head in
    let b = c.deref-in-For.result.now in
    let passed = c.in_ok-left-in-For.left.now in
    subst (λ (s : Stmt). IsLeft (FactsOf n.box s c.args.loops.now) passed) (for_is c.args.walked.now head c.in-For.body b c.in-For.is c.deref-in-For.ensures)
    (loop_passed n c.enter_loop.new.chain head (stmt_of b) c.args.loops.now c.in_ok-inner-in-For.inner.now passed c.in_ok-inner-in-For.ensures.ok c.in_ok-left-in-For.ensures.left)

pub statement-returns-in_ok-left-in-For-clause-back : goal.statement-returns-in_ok-left-in-For-clause-back
statement-returns-in_ok-left-in-For-clause-back t c =
    let n = c.args.chain.now in
    let head = c.in-For.head in
    let b = c.deref-in-For.result.now in
    let into = loop_entered n c.enter_loop.new.chain c.args.walked.now head c.in-For.body b c.args.loops.now c.in_ok-inner-in-For.inner.now c.in-For.is c.deref-in-For.ensures c.in_ok-inner-in-For.ensures.ok c.requires in
    let same = c.in_ok-left-in-For.ensures.back in
    left n c.enter_loop.new.chain c.leave.new.self _ _ _ _ _ into (subst (λ (m : Nesting). c.leave.new.self.box ≡ drop 1 m.box) same c.leave.ensures.numbers)
    (subst (λ (m : Nesting). c.leave.new.self.levels ≡ drop 1 m.levels) same c.leave.ensures.levels)
