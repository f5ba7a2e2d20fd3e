use Rattle.std.specs.Prelude.{◌++◌, IfSome}
use Rattle.std.proofs.Common.{ap, sym, subst, ◌∙◌}
use Rattle.semantics.specs.Meaning.Agrees.{is_among, declared_in}
use Rattle.ktree.specs.View.{stmt_of}
use Rattle.ktree.proofs.Trees.{block_is}
use Rattle.flow.specs.Private.{keeps}
use Rattle.flow.specs.Told.{TellsOf}
use Rattle.pragma_named.specs.Known.{kept}
use Rattle.law_roles.specs.Sharing.{role_variables}
use Rattle.flow.specs.Roles.{left_roles, data_known}
use Rattle.flow.proofs.PrivateLemmas.{fault_here, fault_later}
use Rattle.flow.proofs.FaultLemmas.{told_item}
use Rattle.flow.proofs.sharing.+keeping.Goals as goal

pub statement_fault-returns-in-Block-clause-judged : goal.statement_fault-returns-in-Block-clause-judged
statement_fault-returns-in-Block-clause-judged t c =
    c.block_fault.ensures.judged
    ∙ sym (ap (keeps (is_among (declared_in (stmt_of c.args.body.now) ++ role_variables (left_roles (data_known (kept c.args.lines.now) c.args.files c.args.line))))) (block_is c.args.statement.now c.in-Block.items c.deref-in-Block.result.now c.in-Block.is c.deref-in-Block.ensures.value))

pub statement_fault-returns-in-Block-clause-cause : goal.statement_fault-returns-in-Block-clause-cause
statement_fault-returns-in-Block-clause-cause t c =
    subst (λ s. IfSome c.block_fault.result (λ f. TellsOf f (is_among (declared_in (stmt_of c.args.body.now) ++ role_variables (left_roles (data_known (kept c.args.lines.now) c.args.files c.args.line)))) s))
    (sym (block_is c.args.statement.now c.in-Block.items c.deref-in-Block.result.now c.in-Block.is c.deref-in-Block.ensures.value)) c.block_fault.ensures.cause

pub block_fault-returns-in-Some-clause-judged : goal.block_fault-returns-in-Some-clause-judged
block_fault-returns-in-Some-clause-judged t c =
    sym (fault_here (is_among (declared_in (stmt_of c.args.body.now) ++ role_variables (left_roles (data_known (kept c.args.lines.now) c.args.files c.args.line)))) c.args.items.now c.loop-item.item-index c.item-item.result c.loop-item-test.true c.item-item.is c.loop-item.invariant (sym c.in-Some.ensures.judged))

pub block_fault-returns-in-Some-clause-cause : goal.block_fault-returns-in-Some-clause-cause
block_fault-returns-in-Some-clause-cause t c =
    told_item c.in-Some.fault (is_among (declared_in (stmt_of c.args.body.now) ++ role_variables (left_roles (data_known (kept c.args.lines.now) c.args.files c.args.line)))) c.args.items.now c.loop-item.item-index c.item-item.result c.loop-item-test.true c.item-item.is c.in-Some.ensures.cause

pub block_fault-loop-item-preserved : goal.block_fault-loop-item-preserved
block_fault-loop-item-preserved t c =
    fault_later (is_among (declared_in (stmt_of c.args.body.now) ++ role_variables (left_roles (data_known (kept c.args.lines.now) c.args.files c.args.line)))) c.args.items.now c.loop-item.item-index c.item-item.result c.loop-item-test.true c.item-item.is c.loop-item.invariant (sym c.in_default.ensures.judged)
