use Rattle.lower_code.proofs.Printing.{printed_from, printed_on, printed_over}
use Rattle.lower_code.proofs.statements.pieces.Goals as goal

pub loop-part-init : goal.loop-part-init
loop-part-init c = rw c.new-pieces.ensures.items (printed_from c.args.layout.now c.args.parts.now)

pub loop-part-preserved : goal.loop-part-preserved
loop-part-preserved c =
    rw c.in_ok-push.ensures.items
    (printed_on c.args.layout.now c.args.parts.now c.loop-part.part-index c.part-item.result c.loop-part.pieces.items c.in_ok-piece.field-0 c.loop-part-test.true c.part-item.is c.loop-part.invariant c.in_ok-piece.ensures)

pub returns : goal.returns
returns c = printed_over c.args.layout.now c.args.parts.now c.loop-part.part-index c.loop-part.pieces.items c.loop-part-test.false c.loop-part.invariant
