use Rattle.std.proofs.Common.{ap, sym, ◌∙◌}
use Rattle.pragma.specs.Plain.{has_line}
use Rattle.ktree.proofs.Trees.{block_is}
use Rattle.pragma.proofs.PlainLaw.{line_here, line_later}
use Rattle.pragma.proofs.placed.+line.Goals as goal

pub line_in-returns-in-Block : goal.line_in-returns-in-Block
line_in-returns-in-Block t c =
    c.line_among.ensures ∙ sym (ap has_line (block_is c.args.statement.now c.in-Block.items c.deref-in-Block.result.now c.in-Block.is c.deref-in-Block.ensures.value))

pub line_among-returns-in-Some : goal.line_among-returns-in-Some
line_among-returns-in-Some t c =
    sym (line_here c.args.items.now c.loop-item.item-index c.item-item.result c.loop-item-test.true c.item-item.is c.loop-item.invariant (sym c.in-Some.ensures))

pub line_among-loop-item-preserved : goal.line_among-loop-item-preserved
line_among-loop-item-preserved t c =
    line_later c.args.items.now c.loop-item.item-index c.item-item.result c.loop-item-test.true c.item-item.is c.loop-item.invariant (sym c.in_default.ensures)
