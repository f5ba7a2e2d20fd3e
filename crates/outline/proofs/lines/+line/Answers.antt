use Rattle.std.proofs.Common.{refl, sym, ap, ◌∙◌}
use Rattle.ktree.proofs.Trees.{block_is}
use Rattle.pragma.specs.Plain.{has_line}
use Rattle.outline.proofs.Found.{line_on, line_over}
use Rattle.outline.proofs.lines.+line.Goals as goal

pub has_line-returns-in-Block : goal.has_line-returns-in-Block
has_line-returns-in-Block t c =
    c.has_line_among.ensures ∙ ap has_line (sym (block_is c.args.stmt.now c.in-Block.items _ c.in-Block.is c.deref-in-Block.ensures.value))

pub has_line_among-loop-inner-preserved : goal.has_line_among-loop-inner-preserved
has_line_among-loop-inner-preserved t c =
    line_on c.args.items.now c.loop-inner.inner-index c.inner-item.result c.loop-inner.found c.item_has_line-here.result _ c.loop-inner-test.true c.inner-item.is c.loop-inner.invariant c.item_has_line-here.ensures refl

pub has_line_among-returns : goal.has_line_among-returns
has_line_among-returns t c = line_over c.args.items.now c.loop-inner.inner-index c.loop-inner.found c.loop-inner-test.false c.loop-inner.invariant
