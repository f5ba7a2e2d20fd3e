use Rattle.std.proofs.Common.{ap, sym, ◌∙◌}
use Rattle.semantics.specs.Meaning.Agrees.{is_among}
use Rattle.law_commute.specs.Targets.{targets}
use Rattle.ktree.proofs.Trees.{block_is}
use Rattle.outline.proofs.Assigned.{assigned_here, assigned_later}
use Rattle.outline.proofs.targets.+assigning.Goals as goal

pub assigns-returns-in-Block : goal.assigns-returns-in-Block
assigns-returns-in-Block t c =
    c.assigned_in_block.ensures ∙ sym (ap (λ s. is_among (targets s) c.args.variable.0) (block_is c.args.stmt.now c.in-Block.items c.deref-in-Block.result.now c.in-Block.is c.deref-in-Block.ensures.value))

pub assigned_in_block-returns-then-item_assigns : goal.assigned_in_block-returns-then-item_assigns
assigned_in_block-returns-then-item_assigns t c =
    sym (assigned_here c.args.variable.0 c.args.items.now c.loop-item.item-index c.item-item.result c.loop-item-test.true c.item-item.is c.loop-item.invariant (cc))

pub assigned_in_block-loop-item-preserved : goal.assigned_in_block-loop-item-preserved
assigned_in_block-loop-item-preserved t c =
    assigned_later c.args.variable.0 c.args.items.now c.loop-item.item-index c.item-item.result c.loop-item-test.true c.item-item.is c.loop-item.invariant (cc)
