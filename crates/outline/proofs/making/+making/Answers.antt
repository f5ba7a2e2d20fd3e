use Rattle.std.proofs.Common.{◌+◌, ◌∙◌, sym, ap, subst, refl, rules, drop}
use Rattle.std.specs.Prelude.{None, Some}
use Rattle.semantics.specs.Tree
use Rattle.ktree.specs.View.{stmt_of, items_of}
use Rattle.ktree.proofs.Trees.{block_items, block_is}
use Rattle.ktree.specs.declared.statement.Item.{the_lemmas}
use Rattle.outline.specs.Accepted.{HasRightLoops, ItemsAreRight}
use Rattle.outline.proofs.Right.{item_right}
use Rattle.outline.specs.Made.{IsMade, IsMadeItem}
use Rattle.outline.specs.declared.shape.OutlineItem.{Statement}
use Rattle.outline.proofs.Shaped.{SoFar, team_made, block_made, statement_made, none_so_far, next_so_far, all_so_far}
use Rattle.outline.proofs.making.+making.Goals as goal

pub outline_behind-returns-in_ok-new-in-Some-clause-made : goal.outline_behind-returns-in_ok-new-in-Some-clause-made
outline_behind-returns-in_ok-new-in-Some-clause-made t c =
    let layout = c.args.target.layout.now in
    let mark = c.args.target.registers in
    let made = team_made layout mark c.args.loops c.args.bounds.now c.in-Some.place (stmt_of c.args.stmt.now) c.in_ok-construct-in-Some.construct c.in_ok-construct-in-Some.ensures.handed in
    subst (λ d. IsMade layout mark c.args.loops c.args.bounds.now d (stmt_of c.args.stmt.now) c.in_ok-new-in-Some.field-0.value) (sym c.in-Some.is)
    (subst (IsMade layout mark c.args.loops c.args.bounds.now (Some c.in-Some.place) (stmt_of c.args.stmt.now)) (sym c.in_ok-new-in-Some.ensures.ok) made)

pub outline_inside-returns-in_ok-inner-in-For-clause-made : goal.outline_inside-returns-in_ok-inner-in-For-clause-made
outline_inside-returns-in_ok-inner-in-For-clause-made t c =
    let layout = c.args.target.layout.now in
    let mark = c.args.target.registers in
    let made = rw c.deref-in-For-2.ensures at c.in_ok-inner-in-For.ensures.made in
    rw c.in-For.is (c.serial_loop.ensures.made c.args.loops c.args.bounds.now c.go_into.new.bounds (stmt_of c.in-For.body.value) (c.in_ok-go_into-in-For.ensures.ok) made)

pub outline_inside-outline_items-requires : goal.outline_inside-outline_items-requires
outline_inside-outline_items-requires t c = (
  search (rules, the_lemmas),
  subst (HasRightLoops c.args.target.layout.now c.args.target.registers c.args.loops.parallel.now c.args.bounds.now) (block_is c.args.stmt.now c.in-Block.items c.deref-in-Block.result.now c.in-Block.is c.deref-in-Block.ensures.value) c.requires,
)

pub outline_inside-returns-in_ok-new-in-Block-clause-made : goal.outline_inside-returns-in_ok-new-in-Block-clause-made
outline_inside-returns-in_ok-new-in-Block-clause-made t c =
    let layout = c.args.target.layout.now in
    let mark = c.args.target.registers in
    let made = block_made layout mark c.args.loops c.args.bounds.now c.deref-in-Block.result.now c.in_ok-outlines-in-Block.outlines c.in_ok-outlines-in-Block.ensures.made in
    let same = ap (λ is. Tree.Block (items_of is)) c.deref-in-Block.ensures.value ∙ sym (block_items c.in-Block.items) ∙ sym (ap stmt_of c.in-Block.is) in
    subst (λ a. IsMade layout mark c.args.loops c.args.bounds.now None a c.in_ok-new-in-Block.field-0.value) same
    (subst (IsMade layout mark c.args.loops c.args.bounds.now None (Tree.Block (items_of c.deref-in-Block.result.now))) (sym c.in_ok-new-in-Block.ensures.ok) made)

pub outline_items-loop-item-init : goal.outline_items-loop-item-init
outline_items-loop-item-init t c = (none_so_far c.args.target.layout.now c.args.target.registers c.args.loops c.args.bounds.now c.args.items.now c.in_ok-outlines.outlines.items c.in_ok-outlines.ensures.items, refl, c.requires)

pub outline_items-loop-item-preserved : goal.outline_items-loop-item-preserved
outline_items-loop-item-preserved t c =
    let layout = c.args.target.layout.now in
    let mark = c.args.target.registers in
    let made = subst (λ b. IsMadeItem layout mark c.args.loops b c.loop-item.directive c.item-item.result c.in_ok-outline.outline) c.loop-item.invariant.1 c.in_ok-outline.ensures.made in
    let next = next_so_far layout mark c.args.loops c.args.bounds.now c.args.items.now c.loop-item.item-index c.loop-item.outlines.items c.loop-item.directive c.directive_place-directive.result c.item-item.result c.in_ok-outline.outline c.loop-item-test.true c.item-item.is c.loop-item.invariant.0 made c.directive_place-directive.ensures in
    let right = item_right layout mark c.args.loops.parallel.now c.args.bounds.now c.loop-item.directive c.args.items.now c.loop-item.item-index c.item-item.result c.loop-item-test.true c.item-item.is c.loop-item.invariant.2 in (
      subst (λ os. SoFar layout mark c.args.loops c.args.bounds.now c.args.items.now (c.loop-item.item-index + 1) os c.directive_place-directive.result) (sym c.in_ok-push.ensures.items) next,
      c.in_ok-outline.ensures.back ∙ c.loop-item.invariant.1,
      subst (λ d. ItemsAreRight layout mark c.args.loops.parallel.now c.args.bounds.now d (items_of (drop (c.loop-item.item-index + 1) c.args.items.now))) (sym c.directive_place-directive.ensures) right.1,
    )

pub outline_items-returns-clause-made : goal.outline_items-returns-clause-made
outline_items-returns-clause-made t c =
    all_so_far c.args.target.layout.now c.args.target.registers c.args.loops c.args.bounds.now c.args.items.now c.loop-item.item-index c.loop-item.outlines.items c.loop-item.directive c.loop-item-test.false c.loop-item.invariant.0

pub outline_items-returns-clause-back : goal.outline_items-returns-clause-back
outline_items-returns-clause-back t c = c.loop-item.invariant.1

pub outline_item-returns-clause-made : goal.outline_item-returns-clause-made
outline_item-returns-clause-made t c =
    let layout = c.args.target.layout.now in
    let mark = c.args.target.registers in
    let made = rw c.deref.ensures at c.in_ok-inner.ensures.made in
    subst (λ i. IsMadeItem layout mark c.args.loops c.args.bounds.now c.args.directive i (Statement c.in_ok-inner.inner)) (sym c.in-Statement.is)
    (statement_made layout mark c.args.loops c.args.bounds.now c.args.directive _ c.in-Statement.stmt.value c.in_ok-inner.inner made)
