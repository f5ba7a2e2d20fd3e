use Rattle.std.proofs.Common.{sym, ap, ◌∙◌}
use Rattle.ktree.proofs.Trees.{block_is}
use Rattle.pragma_mention.specs.Sets.{holds}
use Rattle.pragma_mention.specs.Mentions.{mentions_only}
use Rattle.pragma_mention.proofs.statements.+statement.Goals as goal

pub statement_unknown-returns-in-Block : goal.statement_unknown-returns-in-Block
statement_unknown-returns-in-Block t c =
    c.items_unknown.ensures
    ∙ sym (ap (mentions_only (holds c.args.known.now)) (block_is c.args.statement.now c.in-Block.items c.deref-in-Block.result.now c.in-Block.is c.deref-in-Block.ensures.value))
