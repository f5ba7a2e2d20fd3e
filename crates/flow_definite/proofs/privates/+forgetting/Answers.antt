use Rattle.std.proofs.Common.{◌≡◌, ◌+◌, drop, OnOk, sym, ap, ◌∙◌, subst}
use Rattle.semantics.specs.Meaning.Definite.{without, privates_in, privates_among}
use Rattle.ktree.specs.View.{stmt_of, items_of}
use Rattle.ktree.proofs.Trees.{block_items}
use Rattle.pragma_named.specs.Known.{kept}
use Rattle.flow_definite.specs.Judged.{private_locals, known_of}
use Rattle.flow_definite.proofs.PrivatesLemmas.{without_append, item_left}
use Rattle.flow_definite.proofs.privates.+forgetting.Goals as goal

pub forget_inside-returns-in-Some : goal.forget_inside-returns-in-Some
forget_inside-returns-in-Some t c =
    let P = private_locals (kept c.args.lines.now) c.args.files in
    let k = known_of c.args.known.now in
    let a = privates_in P (stmt_of c.in-If.then.value) in
    let b = privates_in P (stmt_of c.in-Some.other.value) in
    rw (c.in-If.is, c.in-Some.is) (
    subst (λ r. OnOk c.forget_inside-in-Some.result (known_of c.forget_inside-in-Some.new.known ≡ r))
    (ap (λ m. without m b) (rw c.deref.ensures at c.in_ok-forget_inside-in-If.ensures) ∙ sym (without_append k a b)) (rw c.deref-in-Some.ensures at c.forget_inside-in-Some.ensures)
    )

pub forget_inside-returns-in-Block : goal.forget_inside-returns-in-Block
forget_inside-returns-in-Block t c =
    let P = private_locals (kept c.args.lines.now) c.args.files in
    let same = ap (λ is. privates_among P (items_of is)) c.deref-in-Block.ensures.value ∙ sym (ap (privates_in P) (block_items c.in-Block.items)) ∙ sym (ap (λ s. privates_in P (stmt_of s)) c.in-Block.is) in
    subst (λ xs. OnOk c.forget_among.result (known_of c.forget_among.new.known ≡ without (known_of c.args.known.now) xs)) same c.forget_among.ensures

pub forget_among-loop-item-preserved : goal.forget_among-loop-item-preserved
forget_among-loop-item-preserved t c =
    let P = private_locals (kept c.args.lines.now) c.args.files in
    let items = c.args.items.now in
    let i = c.loop-item.item-index in
    c.loop-item.invariant
    ∙ item_left P (known_of c.loop-item.known) items i c.item-item.result c.loop-item-test.true c.item-item.is
    ∙ ap (λ k. without k (privates_among P (items_of (drop (i + 1) items)))) (sym c.in_ok-forget_item.ensures)
