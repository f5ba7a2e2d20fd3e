use Rattle.std.specs.Prelude.{[], OnOk, IfErr}
use Rattle.std.proofs.Common.{sym, subst}
use Rattle.std.proofs.lemmas.Result.{on_ok_weaker, IfErr-weaker, err_from_is_err_and}
use Rattle.pragma_named.specs.Known.{kept}
use Rattle.ktree.specs.View.{stmt_of}
use Rattle.ktree.proofs.Trees.{block_is}
use Rattle.flow.specs.Roles.{data_known, LoopsKeepRoles}
use Rattle.flow.specs.Told.{RefusesFor, TellsOfLoops}
use Rattle.flow.specs.Parallel.{Adds, LoopsAre}
use Rattle.flow.proofs.PrivateLemmas.{loop_is, loop_keeps, item_more}
use Rattle.flow.proofs.FaultLemmas.{loop_refuses, line_refuses, loops_refuse}
use Rattle.flow.proofs.ParallelLemmas.{both_listed, all_listed, item_listed}
use Rattle.flow.proofs.classifying.+classifying.Goals as goal

pub classify_among-returns-in_err-classify_line-clause-err : goal.classify_among-returns-in_err-classify_line-clause-err
classify_among-returns-in_err-classify_line-clause-err t c =
    let p = err_from_is_err_and c.from_residual.result c.from_residual.ensures.1 in
    rw (p.1, p.2) (line_refuses c.in_err-classify_line.field-0.0 c.args.directives.now (data_known (kept c.args.lines.now) c.args.files) c.args.items.now c.loop-i.i c.index-items-i.result c.loop-i-test.true c.index-items-i.is c.loop-i.invariant.0
    c.in_err-classify_line.ensures.err)

pub classify_among-returns-in_err-classify_item-clause-err : goal.classify_among-returns-in_err-classify_item-clause-err
classify_among-returns-in_err-classify_item-clause-err t c =
    let p = err_from_is_err_and c.from_residual-in_err-classify_item.result c.from_residual-in_err-classify_item.ensures.1 in
    rw (p.1, p.2) (loops_refuse c.in_err-classify_item.field-0.0 c.args.directives.now (data_known (kept c.args.lines.now) c.args.files) c.args.items.now c.loop-i.i c.index-items-i.result c.loop-i-test.true c.index-items-i.is c.loop-i.invariant.0
    c.in_err-classify_item.ensures.err)

pub classify_among-loop-i-preserved : goal.classify_among-loop-i-preserved
classify_among-loop-i-preserved t c =
    let R = data_known (kept c.args.lines.now) c.args.files in (
      item_more c.args.directives.now R c.args.items.now c.loop-i.i c.index-items-i.result c.loop-i-test.true c.index-items-i.is c.loop-i.invariant.0 c.in_ok-classify_line.ensures.ok c.in_ok-classify_item.ensures.ok,
      item_listed c.args.directives.now R c.args.items.now c.loop-i.i c.index-items-i.result c.loop-i-test.true c.index-items-i.is c.args.loops.now.items c.loop-i.loops.items
          c.classify_line.new.loops.items c.classify_item.new.loops.items c.loop-i.invariant.1 c.in_ok-classify_line.ensures.added c.in_ok-classify_item.ensures.added,
    )

pub classify_among-returns-clause-added : goal.classify_among-returns-clause-added
classify_among-returns-clause-added t c =
    all_listed c.args.directives.now (data_known (kept c.args.lines.now) c.args.files) c.args.items.now c.loop-i.i c.args.loops.now.items c.loop-i.loops.items c.loop-i-test.false c.loop-i.invariant.1

pub classify_in-returns-in_ok-classify_in-in-Some-clause-added : goal.classify_in-returns-in_ok-classify_in-in-Some-clause-added
classify_in-returns-in_ok-classify_in-in-Some-clause-added t c =
    rw (c.in-If.is, c.in-Some.is) (
    on_ok_weaker c.classify_in-in-Some-2.result
    (both_listed c.args.directives.now (data_known (kept c.args.lines.now) c.args.files) (stmt_of c.in-If.then.value) (stmt_of c.in-Some.other.value) c.args.loops.now.items c.classify_in-in-Some.new.loops.items
    c.classify_in-in-Some-2.new.loops.items (rw c.deref-in-Some.ensures at c.in_ok-classify_in-in-Some.ensures.added))
    (rw c.deref-in-Some-2.ensures at c.classify_in-in-Some-2.ensures.added)
    )

pub classify_in-returns-in-For-clause-ok : goal.classify_in-returns-in-For-clause-ok
classify_in-returns-in-For-clause-ok t c =
    let is = loop_is c.args.statement.now c.in-For.field-0 c.in-For.body c.deref-in-For.result.now c.in-For.is c.deref-in-For.ensures in
    on_ok_weaker c.classify_in-in-For.result (loop_keeps c.args.directives.now (data_known (kept c.args.lines.now) c.args.files) c.in-For.field-0 (stmt_of c.deref-in-For.result.now) (stmt_of c.args.statement.now) is)
    c.classify_in-in-For.ensures.ok

pub classify_in-returns-in-For-clause-err : goal.classify_in-returns-in-For-clause-err
classify_in-returns-in-For-clause-err t c =
    let text = c.args.directives.now in
    let R = data_known (kept c.args.lines.now) c.args.files in
    let inner = stmt_of c.deref-in-For.result.now in
    let s = stmt_of c.args.statement.now in
    let is = loop_is c.args.statement.now c.in-For.field-0 c.in-For.body c.deref-in-For.result.now c.in-For.is c.deref-in-For.ensures in
    IfErr-weaker c.classify_in-in-For.result (RefusesFor (LoopsKeepRoles text R [] inner) (λ f. TellsOfLoops f text R inner)) (RefusesFor (LoopsKeepRoles text R [] s) (λ f. TellsOfLoops f text R s))
    (λ f h. loop_refuses f text R c.in-For.field-0 inner s is h) c.classify_in-in-For.ensures.err

pub classify_in-returns-in-Block-clause-ok : goal.classify_in-returns-in-Block-clause-ok
classify_in-returns-in-Block-clause-ok t c =
    subst (λ s. OnOk c.classify_among.result (LoopsKeepRoles c.args.directives.now (data_known (kept c.args.lines.now) c.args.files) [] s))
    (sym (block_is c.args.statement.now c.in-Block.items c.deref-in-Block.result.now c.in-Block.is c.deref-in-Block.ensures.value)) c.classify_among.ensures.ok

pub classify_in-returns-in-Block-clause-added : goal.classify_in-returns-in-Block-clause-added
classify_in-returns-in-Block-clause-added t c =
    subst (λ s. OnOk c.classify_among.result (Adds (LoopsAre c.args.directives.now (data_known (kept c.args.lines.now) c.args.files) s) c.args.loops.now.items c.classify_among.new.loops.items))
    (sym (block_is c.args.statement.now c.in-Block.items c.deref-in-Block.result.now c.in-Block.is c.deref-in-Block.ensures.value)) c.classify_among.ensures.added

pub classify_in-returns-in-Block-clause-err : goal.classify_in-returns-in-Block-clause-err
classify_in-returns-in-Block-clause-err t c =
    let text = c.args.directives.now in
    let R = data_known (kept c.args.lines.now) c.args.files in
    subst (λ s. IfErr c.classify_among.result (RefusesFor (LoopsKeepRoles text R [] s) (λ f. TellsOfLoops f text R s)))
    (sym (block_is c.args.statement.now c.in-Block.items c.deref-in-Block.result.now c.in-Block.is c.deref-in-Block.ensures.value)) c.classify_among.ensures.err

pub classify_item-returns-in-Statement-clause-err : goal.classify_item-returns-in-Statement-clause-err
classify_item-returns-in-Statement-clause-err t c = rw c.in-Statement.is (rw c.deref.ensures at c.classify_in.ensures.err)
