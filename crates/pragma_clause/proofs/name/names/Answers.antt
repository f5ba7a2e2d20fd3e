use Rattle.std.proofs.Common.{[], ◌∷◌, ◌++◌, ◌+◌, ◌-◌, option_map, Some, sym, ap, ◌∙◌}
use Rattle.std.proofs.lemmas.Result.{err_from_is_err_and}
use Rattle.semantics.specs.Directives.DirectiveGrammar.{words}
use Rattle.ktree.specs.DirectiveView.{name_of}
use Rattle.cparse_cursor.proofs.Turns.{goes, closes}
use Rattle.pragma_clause.specs.ClauseReader.{name}
use Rattle.pragma_clause.specs.Views.{with_rest, names_of}
use Rattle.pragma_clause.proofs.Loops.{fails, listed_run, listed_go, listed_close, listed_fail, mapped}
use Rattle.pragma_clause.proofs.name.names.Goals as goal

pub returns-in_err-name : goal.returns-in_err-name
returns-in_err-name c =
    let xs = names_of c.loop-turn.names in
    let ts = words c.loop-turn.rest.now in
    let p = err_from_is_err_and c.from_residual.result c.from_residual.ensures.1 in
    rw (p.1, p.2) (fails (listed_run name) _ _ (xs, ts) _ c.loop-turn.invariant _ c.loop-turn-test.true (λ n. listed_fail name n xs ts _ c.in_err-name.ensures))

pub returns-in_default : goal.returns-in_default
returns-in_default c =
    let xs = names_of c.loop-turn.names in
    let ts = words c.loop-turn.rest.now in
    let h = sym c.punctuator.ensures ∙ ap (option_map (λ rest. words rest.now)) c.in_default.is in
    let items = mapped name_of c.loop-turn.names.items _ _ c.in_ok-push.ensures.items in
    closes (listed_run name) _ _ (xs, ts) _ c.loop-turn.invariant _ c.loop-turn-test.true (λ n. listed_close name n xs ts (with_rest name_of (c.in_ok-name.name, c.in_ok-name.behind)) c.in_ok-name.ensures h)
    ∙ ap (λ xs. Some (xs, words c.in_ok-name.behind.now)) (sym items)

pub loop-turn-preserved : goal.loop-turn-preserved
loop-turn-preserved c =
    let xs = names_of c.loop-turn.names in
    let ts = words c.loop-turn.rest.now in
    let x = with_rest name_of (c.in_ok-name.name, c.in_ok-name.behind) in
    let next = words c.in-Some.next.now in
    let h = sym c.punctuator.ensures ∙ ap (option_map (λ rest. words rest.now)) c.in-Some.is in
    let items = mapped name_of c.loop-turn.names.items _ _ c.in_ok-push.ensures.items in
    ap (λ xs. listed_run name (c.args.setting.length - (c.loop-turn._turn + 1)) (xs, next)) items
    ∙ goes (listed_run name) _ _ (xs, ts) _ c.loop-turn.invariant (xs ++ x.0 ∷ [], next) c.loop-turn-test.true (λ n. listed_go name n xs ts x next c.in_ok-name.ensures h)
