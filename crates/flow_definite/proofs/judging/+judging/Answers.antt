use Rattle.std.proofs.Common.{◌≡◌, cond, [], Some, None, string_bytes, sym, ap, ◌∙◌, subst, inr}
use Rattle.std.specs.Prelude.{◌&&◌, OnOk, IfErr}
use Rattle.std.proofs.lemmas.Result.{err_from_is_err_and}
use Rattle.semantics.specs.Meaning.Definite.{definite, definite_items, without, privates_in}
use Rattle.ktree.specs.View.{stmt_of, items_of, source_of, cond_of, increment_of}
use Rattle.pragma_named.specs.Known.{kept}
use Rattle.flow_definite.specs.Judged.{Refuses, private_locals, known_of}
use Rattle.ktree.proofs.Trees.{block_items}
use Rattle.flow_definite.proofs.JudgeLemmas.{item_judged, item_refused, loop_not_entered, body_refused, loop_stepped, one_branch, two_branches}
use Rattle.flow_definite.proofs.judging.+judging.Goals as goal
use Rattle.flow_definite.proofs.judging.+judging.Goals.{judge-in-Some+in_ok-judge-in-If-2, judge-in_default}

pub block-returns-in_err-judge_item-clause-refused : goal.block-returns-in_err-judge_item-clause-refused
block-returns-in_err-judge_item-clause-refused t c =
    let P = private_locals (kept c.args.lines.now) c.args.files in
    let p = err_from_is_err_and c.from_residual.result c.from_residual.ensures.1 in
    rw (p.1, p.2) (item_refused P c.args.items.now c.loop-item.item-index c.item-item.result c.loop-item-test.true c.item-item.is c.loop-item.before (known_of c.loop-item.known) _ c.loop-item.invariant _ c.in_err-judge_item.ensures.refused)

pub block-loop-item-preserved : goal.block-loop-item-preserved
block-loop-item-preserved t c =
    let P = private_locals (kept c.args.lines.now) c.args.files in
    item_judged P c.args.items.now c.loop-item.item-index c.item-item.result c.loop-item-test.true c.item-item.is c.loop-item.before (known_of c.loop-item.known) _ c.loop-item.invariant _ _ c.line_of-before.ensures c.in_ok-judge_item.ensures.after

pub judge-returns-in-Block-clause-after : goal.judge-returns-in-Block-clause-after
judge-returns-in-Block-clause-after t c =
    let P = private_locals (kept c.args.lines.now) c.args.files in
    let k = known_of c.args.known.now in
    let same = ap (λ s. definite P (stmt_of s) k) c.in-Block.is ∙ ap (λ s. definite P s k) (block_items c.in-Block.items) ∙ ap (λ is. definite_items P [] (items_of is) k) (sym c.deref-in-Block.ensures.value) in
    subst (λ o. OnOk c.block.result (o ≡ Some (known_of c.block.new.known))) (sym same) c.block.ensures.after

pub judge-returns-in-Block-clause-refused : goal.judge-returns-in-Block-clause-refused
judge-returns-in-Block-clause-refused t c =
    let P = private_locals (kept c.args.lines.now) c.args.files in
    let k = known_of c.args.known.now in
    let same = ap (λ s. definite P (stmt_of s) k) c.in-Block.is ∙ ap (λ s. definite P s k) (block_items c.in-Block.items) ∙ ap (λ is. definite_items P [] (items_of is) k) (sym c.deref-in-Block.ensures.value) in
    subst (λ o. IfErr c.block.result (Refuses o)) (sym same) c.block.ensures.refused

pub judge-returns-in_ok-meet-in-If-clause-after : goal.judge-returns-in_ok-meet-in-If-clause-after
judge-returns-in_ok-meet-in-If-clause-after t c =
    let P = private_locals (kept c.args.lines.now) c.args.files in
    let k = known_of c.args.known.now in
    let after = known_of c.judge.new.known in
    let met : known_of c.meet.new.self ≡ (λ y. known_of c.judge.new.known y && known_of c.match-other.beside y) = c.in_ok-meet-in-If.ensures in
    let first : definite P (stmt_of c.in-If.then.value) k ≡ Some after = rw c.deref.ensures at c.in_ok-judge-in-If.ensures.after in
    elim c.match-other.branch [
      | judge-in-Some+in_ok-judge-in-If-2 w ↦
          rw (c.in-If.is, w.in-Some.is) (two_branches P (cond_of c.in-If.cond) (stmt_of c.in-If.then.value) (stmt_of w.in-Some.other.value) k after (known_of w.judge-in-Some.new.known) (known_of c.meet.new.self) c.in_ok-read_test-in-If.ensures.known first
          (rw (w.deref-in-Some.ensures, c.in_ok-beside-in-If.ensures) at w.in_ok-judge-in-If-2.ensures.after)
          (met ∙ ap (λ bs y. after y && known_of bs y) w.beside-is))
      | judge-in_default w ↦
          rw (c.in-If.is, w.in_default.is) (one_branch P (cond_of c.in-If.cond) (stmt_of c.in-If.then.value) k after (known_of c.meet.new.self) c.in_ok-read_test-in-If.ensures.known first
          (met ∙ ap (λ bs y. after y && known_of bs y) (w.beside-is ∙ c.in_ok-beside-in-If.ensures)))
    ]

pub judge-returns-in_err-inside-in-For-clause-refused : goal.judge-returns-in_err-inside-in-For-clause-refused
judge-returns-in_err-inside-in-For-clause-refused t c =
    let P = private_locals (kept c.args.lines.now) c.args.files in
    let head = c.in-For.head in
    let p = err_from_is_err_and c.from_residual-in_err-inside-in-For.result c.from_residual-in_err-inside-in-For.ensures.1 in
    rw (p.1, p.2, c.in-For.is) (loop_not_entered P head.variable.0 (string_bytes head.name) (source_of head.start) (cond_of head.test) (increment_of head.step) (stmt_of c.in-For.body.value) (known_of c.args.known.now) _
    (rw c.deref-in-For.ensures at c.in_err-inside-in-For.ensures.refused))

pub judge-returns-in_err-judge-in-For-clause-refused : goal.judge-returns-in_err-judge-in-For-clause-refused
judge-returns-in_err-judge-in-For-clause-refused t c =
    let P = private_locals (kept c.args.lines.now) c.args.files in
    let head = c.in-For.head in
    let p = err_from_is_err_and c.from_residual-in_err-judge-in-For.result c.from_residual-in_err-judge-in-For.ensures.1 in
    rw (p.1, p.2, c.in-For.is) (body_refused P head.variable.0 (string_bytes head.name) (source_of head.start) (cond_of head.test) (increment_of head.step) (stmt_of c.in-For.body.value) (known_of c.args.known.now)
    (known_of c.in_ok-inside-in-For.inside) (rw c.deref-in-For.ensures at c.in_ok-inside-in-For.ensures.inside) (rw c.deref-in-For.ensures at c.in_ok-inside-in-For.ensures.read) _ (rw c.deref-in-For-2.ensures at c.in_err-judge-in-For.ensures.refused))

pub judge-returns-in_ok-forget_inside-in-For-clause-after : goal.judge-returns-in_ok-forget_inside-in-For-clause-after
judge-returns-in_ok-forget_inside-in-For-clause-after t c =
    let P = private_locals (kept c.args.lines.now) c.args.files in
    let head = c.in-For.head in
    let k = known_of c.args.known.now in
    let is = loop_stepped P head.variable.0 (string_bytes head.name) (source_of head.start) (cond_of head.test) (increment_of head.step) (stmt_of c.in-For.body.value) k (known_of c.in_ok-inside-in-For.inside)
    (rw c.deref-in-For.ensures at c.in_ok-inside-in-For.ensures.inside) (rw c.deref-in-For.ensures at c.in_ok-inside-in-For.ensures.read) _ (rw c.deref-in-For-2.ensures at c.in_ok-judge-in-For.ensures.after) in
    let whole = ap (λ s. definite P (stmt_of s) k) c.in-For.is ∙ is in
    whole ∙ ap (λ b. cond b (Some (without k (privates_in P (stmt_of c.in-For.body.value)))) None) c.in_ok-read_step-in-For.ensures.known
    ∙ ap Some (sym (rw c.deref-in-For-3.ensures at c.in_ok-forget_inside-in-For.ensures))

pub judge-returns-in_err-read_step-in-For-clause-refused : goal.judge-returns-in_err-read_step-in-For-clause-refused
judge-returns-in_err-read_step-in-For-clause-refused t c =
    let P = private_locals (kept c.args.lines.now) c.args.files in
    let head = c.in-For.head in
    let k = known_of c.args.known.now in
    let is = loop_stepped P head.variable.0 (string_bytes head.name) (source_of head.start) (cond_of head.test) (increment_of head.step) (stmt_of c.in-For.body.value) k (known_of c.in_ok-inside-in-For.inside)
    (rw c.deref-in-For.ensures at c.in_ok-inside-in-For.ensures.inside) (rw c.deref-in-For.ensures at c.in_ok-inside-in-For.ensures.read) _ (rw c.deref-in-For-2.ensures at c.in_ok-judge-in-For.ensures.after) in
    let whole = ap (λ s. definite P (stmt_of s) k) c.in-For.is ∙ is in
    let p = err_from_is_err_and c.from_residual-in_err-read_step-in-For.result c.from_residual-in_err-read_step-in-For.ensures.1 in
    rw p.1 (inr (p.2, whole ∙ ap (λ b. cond b (Some (without k (privates_in P (stmt_of c.in-For.body.value)))) None) c.in_err-read_step-in-For.ensures.refused))
