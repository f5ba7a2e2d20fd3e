use Rattle.std.proofs.Common.{sym, ap, ◌∙◌}
use Rattle.ktree.proofs.Trees.{block_is}
use Rattle.pragma_attach.specs.Standing.{holds_loops}
use Rattle.pragma_attach.proofs.placed.holds_loops.Goals as goal

pub returns-in-Block : goal.returns-in-Block
returns-in-Block c =
    c.holds_loops_among.ensures
    ∙ sym (ap (holds_loops c.args.directives.now) (block_is c.args.statement.now c.in-Block.items c.deref.result.now c.in-Block.is c.deref.ensures.value))
