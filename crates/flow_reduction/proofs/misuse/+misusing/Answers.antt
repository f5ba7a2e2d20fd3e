use Rattle.std.proofs.Common.{sym, ap, ◌∙◌}
use Rattle.law_roles.specs.Updates.{reduces}
use Rattle.ktree.proofs.Trees.{block_is}
use Rattle.flow_reduction.specs.Reduced.{reduced}
use Rattle.flow_reduction.proofs.misuse.+misusing.Goals as goal

pub first_misuse-returns-in-Block : goal.first_misuse-returns-in-Block
first_misuse-returns-in-Block t c =
    c.first_misuse_among.ensures
    ∙ sym (ap (reduces (reduced c.args.reductions.now)) (block_is c.args.statement.now c.in-Block.items c.deref-in-Block.result.now c.in-Block.is c.deref-in-Block.ensures.value))
