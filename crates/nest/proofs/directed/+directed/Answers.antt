use Rattle.std.specs.Prelude.{◌≡◌, ◌⊎◌, List, IfOk}
use Rattle.std.proofs.Common.{Box, Global, sym, ap, ◌∙◌, subst}
use Rattle.std.proofs.lemmas.Result.{err_from_is_err_and}
use Rattle.semantics.specs.Tree.{Stmt, no_items}
use Rattle.ktree.specs.View.{stmt_of, with_item}
use Rattle.ktree.specs.declared.statement.Head.{Head}
use Rattle.ktree.specs.declared.statement.Stmt as code
use Rattle.ktree.proofs.Trees.{block_is}
use Rattle.affine_expr.specs.declared.faults.Fault.TheVariants.{OutOfMemory}
use Rattle.nest_loop.specs.declared.entered.LoopFacts.{LoopFacts}
use Rattle.nest_loop.specs.Facts.{FactsOf, FactsAmong}
use Rattle.nest.specs.Judged.{DecidesBy}
use Rattle.nest.specs.Perfect.{Nests, FirstLineNests, FirstNests}
use Rattle.nest.proofs.Walks.{loop_of}
use Rattle.nest.proofs.Along.{loop_not, behind, along_line_not, along_item_not, along_more}
use Rattle.nest.proofs.directed.+directed.Goals as goal

-- the loop that a statement is
for_is : (s : code.Stmt) (head : Head) (body : Box code.Stmt Global) (inner : code.Stmt) → s ≡ code.For head body → inner ≡ body.value → loop_of head (stmt_of inner) ≡ stmt_of s
for_is s head body inner e f = ap (λ b. loop_of head (stmt_of b)) f ∙ sym (ap stmt_of e)

pub statement-returns-in_err-left-in-For-clause-decides : goal.statement-returns-in_err-left-in-For-clause-decides
statement-returns-in_err-left-in-For-clause-decides t c =
    let text = c.args.directives.now in
    let box = c.args.bounds.now in
    let facts = c.args.found.loops.now in
    let inner = stmt_of c.deref-in-For.result.now in
    let p = err_from_is_err_and c.from_residual-in_err-left-in-For.result c.from_residual-in_err-left-in-For.ensures.1 in
    rw (p.1, p.2)
    (subst (λ (s : Stmt). (rest : List LoopFacts) → FactsOf box s facts rest → (c.in_err-left-in-For.field-0.0 ≡ OutOfMemory) ⊎ (Nests text box s → ⊥))
    (for_is c.args.walked.now c.in-For.head c.in-For.body c.deref-in-For.result.now c.in-For.is c.deref-in-For.ensures)
    (loop_not text box c.go_into.new.bounds c.in-For.head inner facts c.in-Some-split_first.own.now c.in-Some-split_first.inner.now c.in_err-left-in-For.field-0.0
    c.in-Some-split_first.ensures.cases.0 c.in_ok-go_into-in-For.ensures.ok c.in_err-left-in-For.ensures.decides))

pub statement-returns-in-Block-clause-decides : goal.statement-returns-in-Block-clause-decides
statement-returns-in-Block-clause-decides t c =
    subst (λ (s : Stmt). DecidesBy (FactsOf c.args.bounds.now s c.args.found.loops.now) c.block.result (Nests c.args.directives.now c.args.bounds.now s))
    (sym (block_is c.args.walked.now c.in-Block.items c.deref-in-Block.result.now c.in-Block.is c.deref-in-Block.ensures.value)) c.block.ensures.decides

pub statement-returns-in-Block-clause-left : goal.statement-returns-in-Block-clause-left
statement-returns-in-Block-clause-left t c =
    subst (λ (s : Stmt). IfOk c.block.result (λ left. (rest : List LoopFacts) → FactsOf c.args.bounds.now s c.args.found.loops.now rest → left.loops.now ≡ rest))
    (sym (block_is c.args.walked.now c.in-Block.items c.deref-in-Block.result.now c.in-Block.is c.deref-in-Block.ensures.value)) c.block.ensures.left

pub block-returns-in_err-item_line_nests-clause-decides : goal.block-returns-in_err-item_line_nests-clause-decides
block-returns-in_err-item_line_nests-clause-decides t c =
    let text = c.args.directives.now in
    let is = c.args.items.now in
    let i = c.loop-i.i in
    let e = c.index-items-i.result in
    let left = c.loop-i.left.loops.now in
    let fault = c.in_err-item_line_nests.field-0.0 in
    let p = err_from_is_err_and c.from_residual.result c.from_residual.ensures.1 in
    rw (p.1, p.2)
    (along_line_not text c.args.bounds.now is i e fault c.args.found.loops.now left c.loop-i-test.true c.index-items-i.is c.loop-i.invariant.1
    (subst (λ box. (rest : List LoopFacts) → FactsAmong box (with_item e (behind is i)) left rest → (fault ≡ OutOfMemory) ⊎ (FirstLineNests text box (with_item e no_items) (behind is i) → ⊥))
    c.loop-i.invariant.0 c.in_err-item_line_nests.ensures))

pub block-returns-in_err-left-clause-decides : goal.block-returns-in_err-left-clause-decides
block-returns-in_err-left-clause-decides t c =
    let text = c.args.directives.now in
    let is = c.args.items.now in
    let e = c.index-items-i.result in
    let left = c.loop-i.left.loops.now in
    let fault = c.in_err-left.field-0.0 in
    let p = err_from_is_err_and c.from_residual-in_err-left.result c.from_residual-in_err-left.ensures.1 in
    rw (p.1, p.2)
    (along_item_not text c.args.bounds.now is c.loop-i.i e fault c.args.found.loops.now left c.loop-i-test.true c.index-items-i.is c.loop-i.invariant.1
    (subst (λ box. (rest : List LoopFacts) → FactsAmong box (with_item e no_items) left rest → (fault ≡ OutOfMemory) ⊎ (FirstNests text box (with_item e no_items) → ⊥))
    c.loop-i.invariant.0 c.in_err-left.ensures.decides))

pub block-loop-i-preserved : goal.block-loop-i-preserved
block-loop-i-preserved t c =
    let text = c.args.directives.now in
    let is = c.args.items.now in
    let i = c.loop-i.i in
    let e = c.index-items-i.result in
    let left = c.loop-i.left.loops.now in
    let now = c.in_ok-left.left.loops.now in (
      c.in_ok-left.ensures.back ∙ c.loop-i.invariant.0,
      along_more text c.args.bounds.now is i e c.args.found.loops.now left now c.loop-i-test.true c.index-items-i.is c.loop-i.invariant.1
          (subst (λ box. (rest : List LoopFacts) → FactsAmong box (with_item e (behind is i)) left rest → FirstLineNests text box (with_item e no_items) (behind is i)) c.loop-i.invariant.0
          c.in_ok-item_line_nests.ensures)
          (subst (λ box. (rest : List LoopFacts) → FactsAmong box (with_item e no_items) left rest → FirstNests text box (with_item e no_items)) c.loop-i.invariant.0 c.in_ok-left.ensures.decides)
          (subst (λ box. (rest : List LoopFacts) → FactsAmong box (with_item e no_items) left rest → now ≡ rest) c.loop-i.invariant.0 c.in_ok-left.ensures.left),
    )
