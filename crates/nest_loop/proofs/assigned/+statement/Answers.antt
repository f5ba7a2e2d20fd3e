use Rattle.std.proofs.Common.{◌∙◌, sym, ap}
use Rattle.nest_loop.specs.Canonical.{assigns}
use Rattle.ktree.proofs.Trees.{block_is}
use Rattle.nest_loop.proofs.Trees.{assigned_here, assigned_later}
use Rattle.nest_loop.proofs.assigned.+statement.Goals as goal

pub assigns-returns-in-Block : goal.assigns-returns-in-Block
assigns-returns-in-Block t c =
    c.some_assigns.ensures ∙ sym (ap (assigns c.args.variable.0) (block_is c.args.statement.now c.in-Block.items c.as_slice.result.now c.in-Block.is c.as_slice.ensures.value))

pub some_assigns-returns-then-item_assigns : goal.some_assigns-returns-then-item_assigns
some_assigns-returns-then-item_assigns t c =
    sym (assigned_here c.args.variable.0 c.args.items.now c.loop-item.item-index c.item-item.result c.loop-item-test.true c.item-item.is (sym c.item_assigns.ensures ∙ c.if-item_assigns.true))
    ∙ c.loop-item.invariant

pub some_assigns-loop-item-preserved : goal.some_assigns-loop-item-preserved
some_assigns-loop-item-preserved t c =
    sym (assigned_later c.args.variable.0 c.args.items.now c.loop-item.item-index c.item-item.result c.loop-item-test.true c.item-item.is (sym c.item_assigns.ensures ∙ c.if-item_assigns.false))
    ∙ c.loop-item.invariant
