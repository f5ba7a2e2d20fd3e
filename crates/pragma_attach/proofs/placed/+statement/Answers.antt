use Rattle.std.proofs.Common.{sym, ap, ◌∙◌}
use Rattle.pragma_attach.specs.Standing.{stands}
use Rattle.ktree.proofs.Trees.{block_is}
use Rattle.pragma_attach.proofs.placed.+statement.Goals as goal

pub statement_fault-returns-in-Block : goal.statement_fault-returns-in-Block
statement_fault-returns-in-Block t c =
    c.items_fault.ensures
    ∙ sym (ap (stands c.args.directives.now c.args.around.may c.args.around.in_team) (block_is c.args.statement.now c.in-Block.items c.deref-in-Block.result.now c.in-Block.is c.deref-in-Block.ensures.value))
