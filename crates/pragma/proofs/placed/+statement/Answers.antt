use Rattle.std.specs.Prelude.{[], ◌+◌}
use Rattle.std.proofs.Common.{sym, subst}
use Rattle.semantics.specs.Tree.{no_items}
use Rattle.ktree.specs.View.{with_item, items_of}
use Rattle.pragma.specs.Parallel.{LoopsHave}
use Rattle.pragma.specs.Plain.{IsPlainLoop, FirstLineHas, Judges}
use Rattle.ktree.proofs.Trees.{block_is}
use Rattle.pragma.proofs.PlainLaw.{for_judged, all_behind, line_refused, item_parts, item_more}
use Rattle.pragma.proofs.placed.+statement.Goals as goal

pub statement_fault-returns-in-For : goal.statement_fault-returns-in-For
statement_fault-returns-in-For t c =
    for_judged c.statement_fault-in-For.result c.args.directives.now c.args.statement.now c.in-For.field-0 c.in-For.body c.deref-in-For.result.now c.in-For.is c.deref-in-For.ensures
    c.statement_fault-in-For.ensures

pub statement_fault-returns-in-Block : goal.statement_fault-returns-in-Block
statement_fault-returns-in-Block t c =
    subst (λ s. Judges c.items_fault.result (LoopsHave c.args.directives.now IsPlainLoop [] s))
    (sym (block_is c.args.statement.now c.in-Block.items c.deref-in-Block.result.now c.in-Block.is c.deref-in-Block.ensures.value)) c.items_fault.ensures

pub items_fault-returns-in-Some : goal.items_fault-returns-in-Some
items_fault-returns-in-Some t c =
    line_refused c.args.directives.now c.args.items.now c.loop-i.i c.index-items-i.result c.loop-i-test.true c.index-items-i.is c.loop-i.invariant c.in-Some.ensures

pub items_fault-returns-in-Some-item_fault : goal.items_fault-returns-in-Some-item_fault
items_fault-returns-in-Some-item_fault t c = λ h.
    c.in-Some-item_fault.ensures (item_parts c.args.directives.now c.args.items.now c.loop-i.i c.index-items-i.result c.loop-i-test.true c.index-items-i.is c.loop-i.invariant h).1

pub items_fault-loop-i-preserved : goal.items_fault-loop-i-preserved
items_fault-loop-i-preserved t c =
    item_more c.args.directives.now c.args.items.now c.loop-i.i c.index-items-i.result c.loop-i-test.true c.index-items-i.is c.loop-i.invariant
    (subst (λ xs. FirstLineHas c.args.directives.now (with_item c.index-items-i.result no_items) (items_of xs)) (all_behind c.args.items.now (c.loop-i.i + 1)) c.in_default.ensures)
    c.in_default-item_fault.ensures
