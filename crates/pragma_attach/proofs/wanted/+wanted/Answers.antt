use Rattle.std.specs.Prelude.{◌≡◌, ◌&&◌, is_none}
use Rattle.std.proofs.Common.{rules, sym, ap, ◌∙◌}
use Rattle.ktree.specs.View.{stmt_of}
use Rattle.ktree.proofs.Trees.{block_is}
use Rattle.pragma_mention.specs.Sets.{holds}
use Rattle.pragma_named.specs.Known.{kept}
use Rattle.pragma_named.specs.Known.{lines_known}
use Rattle.pragma_named.specs.Lines.{each_construct}
use Rattle.pragma_attach.specs.Rightly.{line_wanted}
use Rattle.pragma_attach.proofs.RightlyLaw.{statement_asked}
use Rattle.pragma_attach.proofs.wanted.+wanted.Goals as goal

pub inner_fault-returns-in-Block : goal.inner_fault-returns-in-Block
inner_fault-returns-in-Block t c =
    c.items_fault.ensures
    ∙ sym (ap (each_construct (line_wanted c.args.wanted (holds c.args.set.now) (lines_known (kept c.args.table.now))))
    (block_is c.args.statement.now c.in-Block.items c.deref-in-Block.result.now c.in-Block.is c.deref-in-Block.ensures.value))

pub item_fault-returns-in-Statement : goal.item_fault-returns-in-Statement
item_fault-returns-in-Statement t c =
    let joined : is_none c.or.result ≡ (is_none c.line_fault-own.result && is_none c.inner_fault.result) = search rules in
    statement_asked (line_wanted c.args.wanted (holds c.args.set.now) (lines_known (kept c.args.table.now))) c.args.before c.args.item.now c.in-Statement.statement c.deref.result.now c.in-Statement.is c.deref.ensures
    (is_none c.line_fault-own.result) (is_none c.inner_fault.result) (is_none c.or.result) joined (c.line_fault-own.ensures (stmt_of c.deref.result.now)) c.inner_fault.ensures
