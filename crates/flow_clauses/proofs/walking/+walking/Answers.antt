use Rattle.std.specs.Prelude.{map}
use Rattle.std.proofs.Common.{sym, ap, ◌∙◌}
use Rattle.ktree.specs.View.{declaration_of}
use Rattle.ktree.proofs.Trees.{block_is}
use Rattle.pragma_mention.specs.Sets.{holds}
use Rattle.pragma_named.specs.Known.{kept, lines_known}
use Rattle.pragma_named.specs.Lines.{each_construct}
use Rattle.flow_clauses.specs.Fitting.{line_fits}
use Rattle.flow_clauses.proofs.walking.+walking.Goals as goal

pub inner_fault-returns-in-Block : goal.inner_fault-returns-in-Block
inner_fault-returns-in-Block t c =
    c.items_fault.ensures
    ∙ sym (ap (each_construct (line_fits (map declaration_of c.args.files.now) (holds c.args.loops.now) (lines_known (kept c.args.lines.now))))
    (block_is c.args.statement.now c.in-Block.items c.deref-in-Block.result.now c.in-Block.is c.deref-in-Block.ensures.value))
