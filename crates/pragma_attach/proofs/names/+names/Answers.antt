use Rattle.std.specs.Prelude.{List, ℕ, ◌+◌, ◌∷◌, ◌++◌, drop, OnOk, IfErr}
use Rattle.std.proofs.Common.{sym, ap, ◌∙◌, subst}
use Rattle.std.proofs.lemmas.Result.{err_from_is_err_and}
use Rattle.semantics.specs.Source.Scope.{Scope, AVariable}
use Rattle.semantics.specs.Directives.Annotated.{lines_in, lines_among}
use Rattle.ktree.specs.View.{stmt_of, items_of}
use Rattle.ktree.proofs.Trees.{block_is, next_item}
use Rattle.cparse_cursor.specs.Names.{names_of}
use Rattle.pragma_named.specs.Known.{kept}
use Rattle.pragma_attach.specs.Told.{Carries, Misses, Blames}
use Rattle.pragma_attach.proofs.NamesLaw.{blames_weaker, err_weaker, carried_miss, directive_item, statement_item, loop_lines, first_missed, second_lines}
use Rattle.pragma_attach.proofs.names.+names.Goals as goal

pub item_names-returns-in-Directive-clause-err : goal.item_names-returns-in-Directive-clause-err
item_names-returns-in-Directive-clause-err t c =
    let scope = names_of c.args.scope.now in
    err_weaker c.line_names.result
    (λ h items rest. subst (λ ls. Misses c.args.directives.now (kept c.args.table.now) (ls ++ rest)) (sym (directive_item c.args.item.now c.in-Directive.place c.in-Directive.is scope items)) (h (lines_among scope items ++ rest)))
    c.line_names.ensures.err

pub item_names-returns-in-Statement-clause-err : goal.item_names-returns-in-Statement-clause-err
item_names-returns-in-Statement-clause-err t c =
    let scope = names_of c.args.scope.now in
    err_weaker c.statement_names.result
    (λ h items rest.
    subst (Misses c.args.directives.now (kept c.args.table.now)) (statement_item c.args.item.now c.in-Statement.statement c.deref.result.now c.in-Statement.is c.deref.ensures scope items rest)
    (h (lines_among scope items ++ rest)))
    c.statement_names.ensures.err

pub loop_names-returns-in_err-statement_names-clause-err : goal.loop_names-returns-in_err-statement_names-clause-err
loop_names-returns-in_err-statement_names-clause-err t c =
    let p = err_from_is_err_and c.from_residual-in_err-statement_names.result c.from_residual-in_err-statement_names.ensures.1 in
    rw (p.1, p.2) (subst (λ scope. Blames c.in_err-statement_names.field-0.0 ((rest : List (ℕ × Scope)) → Misses c.args.directives.now (kept c.args.table.now) (lines_in scope (stmt_of c.args.body.now) ++ rest)))
    (c.in_ok-add.ensures.names ∙ ap (λ name. (name, AVariable c.args.head.now.variable.0 0) ∷ names_of c.args.scope.now) c.as_str.ensures.value)
    c.in_err-statement_names.ensures.err)

pub statement_names-returns-in_err-statement_names-in-If-clause-err : goal.statement_names-returns-in_err-statement_names-in-If-clause-err
statement_names-returns-in_err-statement_names-in-If-clause-err t c =
    let p = err_from_is_err_and c.from_residual.result c.from_residual.ensures.1 in
    rw (p.1, p.2) (blames_weaker c.in_err-statement_names-in-If.field-0.0
    (first_missed c.args.directives.now (kept c.args.table.now) c.args.statement.now c.in-If.field-0 c.in-If.then c.in-If.other c.deref.result.now c.in-If.is c.deref.ensures (names_of c.args.scope.now))
    c.in_err-statement_names-in-If.ensures.err)

pub statement_names-returns-in-Some-clause-err : goal.statement_names-returns-in-Some-clause-err
statement_names-returns-in-Some-clause-err t c =
    let scope = names_of c.args.scope.now in
    let a = lines_in scope (stmt_of c.deref.result.now) in
    let b = lines_in scope (stmt_of c.deref-in-Some.result.now) in
    let text = c.args.directives.now in
    let old = kept c.args.table.now in
    let mid = kept c.statement_names.new.table in
    let told = subst (λ bs. IfErr c.statement_names-in-Some.result (λ stop. Blames stop ((rest : List (ℕ × Scope)) → Misses text mid (lines_in (names_of bs) (stmt_of c.deref-in-Some.result.now) ++ rest)))) c.in_ok-statement_names-in-If.ensures.names c.statement_names-in-Some.ensures.err in
    err_weaker c.statement_names-in-Some.result
    (λ h rest.
    subst (Misses text old)
    (second_lines c.args.statement.now c.in-If.field-0 c.in-If.then c.in-If.other c.in-Some.other c.deref.result.now c.deref-in-Some.result.now c.in-If.is c.in-Some.is c.deref.ensures c.deref-in-Some.ensures scope rest)
    (carried_miss text old mid (a ++ (b ++ rest)) (b ++ rest) (c.in_ok-statement_names-in-If.ensures.ok (b ++ rest)) (h rest)))
    told

pub statement_names-returns-in-For-clause-err : goal.statement_names-returns-in-For-clause-err
statement_names-returns-in-For-clause-err t c =
    let scope = names_of c.args.scope.now in
    err_weaker c.loop_names.result
    (λ h rest. subst (λ ls. Misses c.args.directives.now (kept c.args.table.now) (ls ++ rest)) (loop_lines c.args.statement.now c.in-For.head c.in-For.body c.deref-in-For.result.now c.in-For.is c.deref-in-For.ensures scope) (h rest))
    c.loop_names.ensures.err

pub statement_names-returns-in-Block-clause-ok : goal.statement_names-returns-in-Block-clause-ok
statement_names-returns-in-Block-clause-ok t c =
    subst (λ s. OnOk c.block_names.result ((rest : List (ℕ × Scope)) → Carries c.args.directives.now (kept c.args.table.now) (kept c.block_names.new.table) (lines_in (names_of c.args.scope.now) s ++ rest) rest))
    (sym (block_is c.args.statement.now c.in-Block.items c.deref-in-Block.result.now c.in-Block.is c.deref-in-Block.ensures.value)) c.block_names.ensures.ok

pub statement_names-returns-in-Block-clause-err : goal.statement_names-returns-in-Block-clause-err
statement_names-returns-in-Block-clause-err t c =
    subst (λ s. IfErr c.block_names.result (λ stop. Blames stop ((rest : List (ℕ × Scope)) → Misses c.args.directives.now (kept c.args.table.now) (lines_in (names_of c.args.scope.now) s ++ rest))))
    (sym (block_is c.args.statement.now c.in-Block.items c.deref-in-Block.result.now c.in-Block.is c.deref-in-Block.ensures.value)) c.block_names.ensures.err

pub items_names-returns-in_err-item_names-clause-err : goal.items_names-returns-in_err-item_names-clause-err
items_names-returns-in_err-item_names-clause-err t c =
    let text = c.args.directives.now in
    let mid = kept c.loop-item.table in
    let inner = names_of c.loop-item.scope in
    let items = c.args.items.now in
    let i = c.loop-item.item-index in
    let p = err_from_is_err_and c.from_residual.result c.from_residual.ensures.1 in
    rw (p.1, p.2) (blames_weaker c.in_err-item_names.field-0.0
    (λ h rest.
    carried_miss text (kept c.args.table.now) mid (lines_among (names_of c.args.scope.now) (items_of items) ++ rest) (lines_among inner (items_of (drop i items)) ++ rest) (c.loop-item.invariant.0 rest)
    (subst (λ its. Misses text mid (lines_among inner its ++ rest)) (sym (next_item items i c.item-item.result c.loop-item-test.true c.item-item.is)) (h (items_of (drop (i + 1) items)) rest)))
    c.in_err-item_names.ensures.err)
