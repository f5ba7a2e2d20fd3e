use Rattle.std.specs.Prelude.{◌+◌, ◌≡◌, ◌⊎◌, IfOk, OnOk}
use Rattle.std.proofs.Common.{Box, Global, sym, ap, ◌∙◌, subst}
use Rattle.std.proofs.lemmas.Result.{err_from_is_err_and}
use Rattle.semantics.specs.Tree.{Stmt, no_items}
use Rattle.ktree.specs.View.{stmt_of, with_item}
use Rattle.ktree.specs.declared.statement.Head.{Head}
use Rattle.ktree.specs.declared.statement.Stmt as code
use Rattle.ktree.proofs.Trees.{block_is}
use Rattle.affine_expr.specs.declared.faults.Fault.TheVariants.{OutOfMemory}
use Rattle.nest.specs.Nests.{IsAffine, Has, Have}
use Rattle.nest.specs.Leaves.{Meets, Meet}
use Rattle.nest_loop.specs.Facts.{FactsOf, FactsAmong}
use Rattle.nest.specs.Facts.{Pushes}
use Rattle.nest.specs.Judged.{inside_of, out_of, Decides, Tells, EntersLoop}
use Rattle.nest.proofs.Walks.{loop_of, head_refused, body_refused, item_more, item_refused}
use Rattle.nest.proofs.Leaving.{ToldSoFar, told_more}
use Rattle.nest.proofs.FactsLaw.{entered, put_more}
use Rattle.nest.proofs.statements.+statement.Goals as goal

-- the loop that a statement is
for_is : (s : code.Stmt) (head : Head) (body : Box code.Stmt Global) (inner : code.Stmt) → s ≡ code.For head body → inner ≡ body.value → loop_of head (stmt_of inner) ≡ stmt_of s
for_is s head body inner e f = ap (λ b. loop_of head (stmt_of b)) f ∙ sym (ap stmt_of e)

pub block-returns-in_err-own-clause-affine : goal.block-returns-in_err-own-clause-affine
block-returns-in_err-own-clause-affine t c =
    let fault = c.in_err-own.field-0.0 in
    let p = err_from_is_err_and c.from_residual.result c.from_residual.ensures.1 in
    rw (p.1, p.2)
    (item_refused IsAffine c.args.bounds.now c.args.items.now c.loop-item.item-index c.item-item.result fault c.loop-item-test.true c.item-item.is c.loop-item.invariant.1
    (subst (λ box. (fault ≡ OutOfMemory) ⊎ (Have IsAffine box (with_item c.item-item.result no_items) → ⊥)) c.loop-item.invariant.0 c.in_err-own.ensures.affine))

pub block-loop-item-preserved : goal.block-loop-item-preserved
block-loop-item-preserved t c =
    let box = c.args.bounds.now in
    let is = c.args.items.now in
    let i = c.loop-item.item-index in
    let e = c.item-item.result in
    let stays = inside_of c.args.variables.now in
    let leaves = out_of c.args.variables.now in (
      c.in_ok-own.ensures.back ∙ c.loop-item.invariant.0,
      item_more IsAffine box is i e c.loop-item-test.true c.item-item.is c.loop-item.invariant.1
          (subst (λ b. Have IsAffine b (with_item e no_items)) c.loop-item.invariant.0 c.in_ok-own.ensures.affine),
      subst (ToldSoFar stays leaves box is (i + 1)) (sym c.or-leaves.ensures)
          (told_more stays leaves box is i e c.loop-item.leaves c.in_ok-own.own c.loop-item-test.true c.item-item.is c.loop-item.invariant.2
          (subst (λ b. Tells (Have stays b (with_item e no_items)) (Meet leaves b (with_item e no_items)) c.in_ok-own.own) c.loop-item.invariant.0 c.in_ok-own.ensures.leaves)),
      put_more box is i e c.args.loops.now.items c.loop-item.loops.items c.one_item.new.loops.items c.loop-item-test.true c.item-item.is c.loop-item.invariant.3
          (subst (λ b. Pushes (FactsAmong b (with_item e no_items)) c.loop-item.loops.items c.one_item.new.loops.items) c.loop-item.invariant.0 c.in_ok-own.ensures.facts),
    )

pub statement-returns-in_err-enter_loop-in-For-clause-affine : goal.statement-returns-in_err-enter_loop-in-For-clause-affine
statement-returns-in_err-enter_loop-in-For-clause-affine t c =
    let fault = c.in_err-enter_loop-in-For.field-0.0 in
    let p = err_from_is_err_and c.from_residual-in_err-enter_loop-in-For.result c.from_residual-in_err-enter_loop-in-For.ensures.1 in
    rw (p.1, p.2)
    (subst (λ (s : Stmt). (fault ≡ OutOfMemory) ⊎ (Has IsAffine c.args.bounds.now s → ⊥))
    (for_is c.args.walked.now c.in-For.head c.in-For.body c.deref-in-For.result.now c.in-For.is c.deref-in-For.ensures)
    (head_refused IsAffine c.args.bounds.now c.in-For.head (stmt_of c.deref-in-For.result.now) fault c.in_err-enter_loop-in-For.ensures.fault))

pub statement-returns-in_err-leaves-in-For-clause-affine : goal.statement-returns-in_err-leaves-in-For-clause-affine
statement-returns-in_err-leaves-in-For-clause-affine t c =
    let fault = c.in_err-leaves-in-For.field-0.0 in
    let p = err_from_is_err_and c.from_residual-in_err-leaves-in-For.result c.from_residual-in_err-leaves-in-For.ensures.1 in
    let box = c.args.bounds.now in
    let after = c.enter_loop.new.bounds in
    let inner = stmt_of c.deref-in-For-2.result.now in
    rw (p.1, p.2)
    (subst (λ (s : Stmt). (fault ≡ OutOfMemory) ⊎ (Has IsAffine box s → ⊥))
    (for_is c.args.walked.now c.in-For.head c.in-For.body c.deref-in-For-2.result.now c.in-For.is c.deref-in-For-2.ensures)
    (body_refused IsAffine box after c.in-For.head inner fault
    (entered box after c.args.loops.now.items c.enter_loop.new.loops.items c.in-For.head inner
    (subst (λ b. EntersLoop box after c.args.loops.now.items c.enter_loop.new.loops.items c.in-For.head (stmt_of b)) (c.deref-in-For.ensures ∙ sym c.deref-in-For-2.ensures)
    c.in_ok-enter_loop-in-For.ensures.ok))
    c.in_err-leaves-in-For.ensures.affine))

pub statement-returns-in-Block-clause-affine : goal.statement-returns-in-Block-clause-affine
statement-returns-in-Block-clause-affine t c =
    subst (λ (s : Stmt). Decides c.block.result (Has IsAffine c.args.bounds.now s))
    (sym (block_is c.args.walked.now c.in-Block.items c.deref-in-Block.result.now c.in-Block.is c.deref-in-Block.ensures.value)) c.block.ensures.affine

pub statement-returns-in-Block-clause-leaves : goal.statement-returns-in-Block-clause-leaves
statement-returns-in-Block-clause-leaves t c =
    let stays = inside_of c.args.variables.now in
    let leaves = out_of c.args.variables.now in
    subst (λ (s : Stmt). IfOk c.block.result (Tells (Has stays c.args.bounds.now s) (Meets leaves c.args.bounds.now s)))
    (sym (block_is c.args.walked.now c.in-Block.items c.deref-in-Block.result.now c.in-Block.is c.deref-in-Block.ensures.value)) c.block.ensures.leaves

pub statement-returns-in-Block-clause-facts : goal.statement-returns-in-Block-clause-facts
statement-returns-in-Block-clause-facts t c =
    subst (λ (s : Stmt). OnOk c.block.result (Pushes (FactsOf c.args.bounds.now s) c.args.loops.now.items c.block.new.loops.items))
    (sym (block_is c.args.walked.now c.in-Block.items c.deref-in-Block.result.now c.in-Block.is c.deref-in-Block.ensures.value)) c.block.ensures.facts
