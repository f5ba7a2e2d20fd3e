use Rattle.std.specs.Prelude.{◌≡◌, is_none, IfOk}
use Rattle.std.proofs.Common.{sym, subst}
use Rattle.ktree.proofs.Trees.{block_is}
use Rattle.pragma_named.specs.Known.{kept}
use Rattle.pragma_named.specs.Known.{lines_known}
use Rattle.pragma_named.specs.Lines.{each_construct}
use Rattle.pragma_attach.specs.Rightly.{names_rightly}
use Rattle.pragma_attach.proofs.naming.+naming.Goals as goal

pub statement_fault-returns-in-Block : goal.statement_fault-returns-in-Block
statement_fault-returns-in-Block t c =
    subst (λ s. IfOk c.items_fault.result (λ found. is_none found ≡ each_construct (names_rightly (lines_known (kept c.args.table.now))) s))
    (sym (block_is c.args.statement.now c.in-Block.items c.deref-in-Block.result.now c.in-Block.is c.deref-in-Block.ensures.value)) c.items_fault.ensures
