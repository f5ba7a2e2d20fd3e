use Rattle.std.proofs.Common.{sym, ap, ◌∙◌}
use Rattle.semantics.specs.Meaning.Agrees.{is_among}
use Rattle.law_scans.specs.Phases.{written_in}
use Rattle.ktree.proofs.Trees.{block_is}
use Rattle.flow_scan.proofs.writing.+writing.Goals as goal

pub write_in-returns-in-Block : goal.write_in-returns-in-Block
write_in-returns-in-Block t c =
    c.first_write.ensures
    ∙ sym (ap (λ s. is_among (written_in s) c.args.variable.0) (block_is c.args.statement.now c.in-Block.items c.deref-in-Block.result.now c.in-Block.is c.deref-in-Block.ensures.value))
