use Rattle.std.specs.Prelude.{◌≡◌, ◌+◌, ◌-◌, length, map, take, drop, Option, Some, OnOk, IfOk, IfErr}
use Rattle.std.proofs.Common.{Box, Global, sym, ap, ◌∙◌, subst, rules}
use Rattle.std.proofs.lemmas.Result.{on_ok_weaker, err_from_is_err_and}
use Rattle.semantics.specs.Tree.{Stmt, IfElse, no_items}
use Rattle.ktree.specs.View.{stmt_of, cond_of, items_of, with_item, declaration_of}
use Rattle.ktree.specs.declared.expression.Cond.{Cond}
use Rattle.ktree.specs.declared.statement.Stmt as code
use Rattle.ktree.specs.declared.statement.Item.{the_lemmas}
use Rattle.ktree.proofs.Trees.{block_is}
use Rattle.nest_loop.specs.Facts.{FactsOf, FactsAmong, StandFirst, StandFirstAmong, IsLeft}
use Rattle.nest_loop.proofs.Standing.{next_first, next_and_behind, left_more}
use Rattle.pairtest_counter.specs.Levels.{Nesting}
use Rattle.nest.proofs.NestedLaw.{all_behind}
use Rattle.deptest_verdict.specs.Sinks.{line_sinks}
use Rattle.deptest_verdict.specs.Shown.{LoopsShown, FirstLineShown, FirstLoopsShown}
use Rattle.pairtest_access.proofs.Walks.{for_is, loop_entered, loop_passed, some_loop, left}
use Rattle.deptest_verdict.proofs.Walks.{shown_more, loop_shown, loop_refused}
use Rattle.deptest_verdict.proofs.Refusals.{refused_more, refused_by_line, refused_by_statement}
use Rattle.deptest_verdict.specs.Refused.{LoopsRefused}
use Rattle.deptest_verdict.specs.Telling.{FirstLineRefused, FirstLoopsRefused, OrMemory}
use Rattle.deptest_verdict.proofs.kernels.+shown.Goals as goal

-- the selection that a statement is
if_else_is : (s : code.Stmt) (c : Cond) (then : Box code.Stmt Global) (other : Option (Box code.Stmt Global)) (els : Box code.Stmt Global) (inner outer : code.Stmt) → s ≡ code.If c then other
    → other ≡ Some els → inner ≡ then.value → outer ≡ els.value → IfElse (cond_of c) (stmt_of inner) (stmt_of outer) ≡ stmt_of s
if_else_is s c then other els inner outer e g f h =
    ap (λ i. IfElse (cond_of c) (stmt_of i) (stmt_of outer)) f ∙ ap (λ i. IfElse (cond_of c) (stmt_of then.value) (stmt_of i)) h ∙ sym (ap stmt_of (e ∙ ap (code.If c then) g))

pub block-loop-i-preserved : goal.block-loop-i-preserved
block-loop-i-preserved t c =
    let text = c.args.given.directives.now in
    let sinks = line_sinks c.args.given.doacross.now in
    let is = c.args.items.now in
    let line =
    subst (λ n. FirstLineShown text sinks n (with_item c.index-items-i.result no_items) (items_of (take (length is - (c.loop-i.i + 1)) (drop (c.loop-i.i + 1) is)))) c.loop-i.invariant.0
    c.in_ok-item_line_shown.ensures.ok in
    let loops = subst (λ n. FirstLoopsShown text sinks n (with_item c.index-items-i.result no_items)) (c.in_ok-item_line_shown.ensures.back ∙ c.loop-i.invariant.0) c.in_ok-left.ensures.ok in (
      c.in_ok-left.ensures.back ∙ c.in_ok-item_line_shown.ensures.back ∙ c.loop-i.invariant.0,
      shown_more text sinks c.args.chain.now is c.loop-i.i c.index-items-i.result c.loop-i-test.true c.index-items-i.is c.loop-i.invariant.1 line loops,
      refused_more text sinks (map declaration_of c.args.given.variables.now) c.args.chain.now is c.loop-i.i c.index-items-i.result c.loop-i-test.true c.index-items-i.is c.loop-i.invariant.2 line loops,
      left_more c.args.chain.now.box is c.loop-i.i c.index-items-i.result c.args.loops.now c.loop-i.left.now c.in_ok-left.left.now c.loop-i-test.true c.index-items-i.is c.loop-i.invariant.3
          (subst (λ (n : Nesting). IsLeft (FactsAmong n.box (with_item c.index-items-i.result no_items) c.loop-i.left.now) c.in_ok-left.left.now) (c.in_ok-item_line_shown.ensures.back ∙ c.loop-i.invariant.0)
          c.in_ok-left.ensures.left),
    )

pub statement-returns-in-Block-clause-ok : goal.statement-returns-in-Block-clause-ok
statement-returns-in-Block-clause-ok t c =
    subst (λ (s : Stmt). OnOk c.block.result (LoopsShown c.args.given.directives.now (line_sinks c.args.given.doacross.now) c.args.chain.now s))
    (sym (block_is c.args.walked.now c.in-Block.items c.deref-in-Block.result.now c.in-Block.is c.deref-in-Block.ensures.value)) c.block.ensures.ok

pub block-returns-in_err-item_line_shown-clause-err : goal.block-returns-in_err-item_line_shown-clause-err
block-returns-in_err-item_line_shown-clause-err t c =
    let text = c.args.given.directives.now in
    let sinks = line_sinks c.args.given.doacross.now in
    let ds = map declaration_of c.args.given.variables.now in
    let is = c.args.items.now in
    let p = err_from_is_err_and c.from_residual.result c.from_residual.ensures.1 in
    rw (p.1, p.2) (refused_by_line text sinks ds c.args.chain.now is c.loop-i.i c.index-items-i.result c.in_err-item_line_shown.field-0.0 c.loop-i-test.true c.index-items-i.is c.loop-i.invariant.2
    (subst
    (λ n. OrMemory (FirstLineRefused text sinks ds n (with_item c.index-items-i.result no_items) (items_of (take (length is - (c.loop-i.i + 1)) (drop (c.loop-i.i + 1) is)))) c.in_err-item_line_shown.field-0.0)
    c.loop-i.invariant.0 c.in_err-item_line_shown.ensures.err))

pub block-returns-in_err-left-clause-err : goal.block-returns-in_err-left-clause-err
block-returns-in_err-left-clause-err t c =
    let text = c.args.given.directives.now in
    let sinks = line_sinks c.args.given.doacross.now in
    let ds = map declaration_of c.args.given.variables.now in
    let is = c.args.items.now in
    let p = err_from_is_err_and c.from_residual-in_err-left.result c.from_residual-in_err-left.ensures.1 in
    rw (p.1, p.2) (refused_by_statement text sinks ds c.args.chain.now is c.loop-i.i c.index-items-i.result c.in_err-left.field-0.0 c.loop-i-test.true c.index-items-i.is c.loop-i.invariant.2
    (subst (λ n. OrMemory (FirstLoopsRefused text sinks ds n (with_item c.index-items-i.result no_items)) c.in_err-left.field-0.0) (c.in_ok-item_line_shown.ensures.back ∙ c.loop-i.invariant.0)
    c.in_err-left.ensures.err))

pub statement-returns-in-Block-clause-err : goal.statement-returns-in-Block-clause-err
statement-returns-in-Block-clause-err t c =
    subst (λ (s : Stmt). IfErr c.block.result (OrMemory (LoopsRefused c.args.given.directives.now (line_sinks c.args.given.doacross.now) (map declaration_of c.args.given.variables.now) c.args.chain.now s)))
    (sym (block_is c.args.walked.now c.in-Block.items c.deref-in-Block.result.now c.in-Block.is c.deref-in-Block.ensures.value)) c.block.ensures.err

pub statement-returns-in-Block-clause-left : goal.statement-returns-in-Block-clause-left
statement-returns-in-Block-clause-left t c =
    subst (λ (s : Stmt). IfOk c.block.result (λ passed. IsLeft (FactsOf c.args.chain.now.box s c.args.loops.now) passed.now))
    (sym (block_is c.args.walked.now c.in-Block.items c.deref-in-Block.result.now c.in-Block.is c.deref-in-Block.ensures.value)) c.block.ensures.left

pub statement-block-requires : goal.statement-block-requires
statement-block-requires t c = (
  search (rules, the_lemmas),
  subst (λ (s : Stmt). StandFirst c.args.chain.now.box s c.args.loops.now)
      (block_is c.args.walked.now c.in-Block.items c.deref-in-Block.result.now c.in-Block.is c.deref-in-Block.ensures.value) c.requires,
)

pub block-item_line_shown-requires : goal.block-item_line_shown-requires
block-item_line_shown-requires t c =
    let is = c.args.items.now in
    let e = c.index-items-i.result in
    subst (λ (n : Nesting). StandFirstAmong n.box (with_item e (items_of (take (length is - (c.loop-i.i + 1)) (drop (c.loop-i.i + 1) is)))) c.loop-i.left.now) (sym c.loop-i.invariant.0)
    (subst (λ xs. StandFirstAmong c.args.chain.now.box (with_item e (items_of xs)) c.loop-i.left.now) (sym (all_behind is (c.loop-i.i + 1)))
    (next_and_behind c.args.chain.now.box is c.loop-i.i e c.args.loops.now c.loop-i.left.now c.loop-i-test.true c.index-items-i.is c.loop-i.invariant.3 c.requires))

pub block-one_item-requires : goal.block-one_item-requires
block-one_item-requires t c =
    let e = c.index-items-i.result in (
      search (rules, the_lemmas),
      subst (λ (n : Nesting). StandFirstAmong n.box (with_item e no_items) c.loop-i.left.now) (sym (c.in_ok-item_line_shown.ensures.back ∙ c.loop-i.invariant.0))
          (next_first c.args.chain.now.box c.args.items.now c.loop-i.i e c.args.loops.now c.loop-i.left.now c.loop-i-test.true c.index-items-i.is c.loop-i.invariant.3 c.requires),
    )

pub statement-returns-in_err-left-in-For-clause-err : goal.statement-returns-in_err-left-in-For-clause-err
statement-returns-in_err-left-in-For-clause-err t c =
    let n = c.args.chain.now in
    let head = c.in-For.head in
    let b = c.deref-in-For.result.now in
    let into = loop_entered n c.enter.new.chain c.args.walked.now head c.in-For.body b c.args.loops.now c.in_ok-inner-in-For.inner.now c.in-For.is c.deref-in-For.ensures c.in_ok-inner-in-For.ensures.ok c.requires in
    let text = c.args.given.directives.now in
    let sinks = line_sinks c.args.given.doacross.now in
    let ds = map declaration_of c.args.given.variables.now in
    let r = c.in_err-left-in-For.field-0.0 in
    let p = err_from_is_err_and c.from_residual-in_err-left-in-For.result c.from_residual-in_err-left-in-For.ensures.1 in
    rw (p.1, p.2) (subst (λ (s : Stmt). OrMemory (LoopsRefused text sinks ds n s) r) (for_is c.args.walked.now head c.in-For.body b c.in-For.is c.deref-in-For.ensures)
    (loop_refused text sinks ds n c.enter.new.chain head (stmt_of b) r into c.in_err-left-in-For.ensures.err))

pub statement-leave-requires : goal.statement-leave-requires
statement-leave-requires t c =
    let n = c.args.chain.now in
    let head = c.in-For.head in
    let b = c.deref-in-For.result.now in
    let into = loop_entered n c.enter.new.chain c.args.walked.now head c.in-For.body b c.args.loops.now c.in_ok-inner-in-For.inner.now c.in-For.is c.deref-in-For.ensures c.in_ok-inner-in-For.ensures.ok c.requires in
    some_loop n c.enter.new.chain c.statement-in-For.new.chain _ _ _ _ _ into c.in_ok-left-in-For.ensures.back

pub statement-returns-in_ok-left-in-For-clause-ok : goal.statement-returns-in_ok-left-in-For-clause-ok
statement-returns-in_ok-left-in-For-clause-ok t c =
    let n = c.args.chain.now in
    let head = c.in-For.head in
    let b = c.deref-in-For.result.now in
    let into = loop_entered n c.enter.new.chain c.args.walked.now head c.in-For.body b c.args.loops.now c.in_ok-inner-in-For.inner.now c.in-For.is c.deref-in-For.ensures c.in_ok-inner-in-For.ensures.ok c.requires in
    let text = c.args.given.directives.now in
    let sinks = line_sinks c.args.given.doacross.now in
    subst (λ (s : Stmt). LoopsShown text sinks n s) (for_is c.args.walked.now head c.in-For.body b c.in-For.is c.deref-in-For.ensures)
    (loop_shown text sinks n c.enter.new.chain head (stmt_of b) into c.in_ok-left-in-For.ensures.ok)

pub statement-returns-in_ok-left-in-For-clause-left : goal.statement-returns-in_ok-left-in-For-clause-left
statement-returns-in_ok-left-in-For-clause-left t c =
    let n = c.args.chain.now in
    let head = c.in-For.head in
    let b = c.deref-in-For.result.now in
    let passed = c.in_ok-left-in-For.left.now in
    subst (λ (s : Stmt). IsLeft (FactsOf n.box s c.args.loops.now) passed) (for_is c.args.walked.now head c.in-For.body b c.in-For.is c.deref-in-For.ensures)
    (loop_passed n c.enter.new.chain head (stmt_of b) c.args.loops.now c.in_ok-inner-in-For.inner.now passed c.in_ok-inner-in-For.ensures.ok c.in_ok-left-in-For.ensures.left)

pub statement-returns-in_ok-left-in-For-clause-back : goal.statement-returns-in_ok-left-in-For-clause-back
statement-returns-in_ok-left-in-For-clause-back t c =
    let n = c.args.chain.now in
    let head = c.in-For.head in
    let b = c.deref-in-For.result.now in
    let into = loop_entered n c.enter.new.chain c.args.walked.now head c.in-For.body b c.args.loops.now c.in_ok-inner-in-For.inner.now c.in-For.is c.deref-in-For.ensures c.in_ok-inner-in-For.ensures.ok c.requires in
    let same = c.in_ok-left-in-For.ensures.back in
    left n c.enter.new.chain c.leave.new.self _ _ _ _ _ into (subst (λ (m : Nesting). c.leave.new.self.box ≡ drop 1 m.box) same c.leave.ensures.numbers)
    (subst (λ (m : Nesting). c.leave.new.self.levels ≡ drop 1 m.levels) same c.leave.ensures.levels)

pub statement-returns-in-Some-clause-ok : goal.statement-returns-in-Some-clause-ok
statement-returns-in-Some-clause-ok t c =
    let n = c.args.chain.now in
    let text = c.args.given.directives.now in
    let sinks = line_sinks c.args.given.doacross.now in
    on_ok_weaker c.statement-in-Some.result
    (λ more.
    subst (λ (s : Stmt). LoopsShown text sinks n s)
    (if_else_is c.args.walked.now c.in-If.field-0 c.in-If.then c.in-If.other c.in-Some.other c.deref.result.now c.deref-in-Some.result.now c.in-If.is c.in-Some.is c.deref.ensures
    c.deref-in-Some.ensures)
    (c.in_ok-left-in-If.ensures.ok, subst (λ (m : Nesting). LoopsShown text sinks m (stmt_of c.deref-in-Some.result.now)) c.in_ok-left-in-If.ensures.back more))
    c.statement-in-Some.ensures.ok
