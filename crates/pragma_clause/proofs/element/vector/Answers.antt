use Rattle.std.proofs.Common.{[], ◌∷◌, ◌++◌, ◌+◌, ◌-◌, option_map, Some, sym, ap, ◌∙◌}
use Rattle.std.proofs.lemmas.Result.{err_from_is_err_and}
use Rattle.semantics.specs.Directives.DirectiveGrammar.{words}
use Rattle.cparse_cursor.proofs.Turns.{goes, closes}
use Rattle.pragma_clause.specs.DirectiveReader.{element}
use Rattle.pragma_clause.specs.Views.{with_rest, written_element, elements_of}
use Rattle.pragma_clause.proofs.Loops.{fails, listed_run, listed_go, listed_close, listed_fail, mapped}
use Rattle.pragma_clause.proofs.element.vector.Goals as goal

pub returns-in_err-element : goal.returns-in_err-element
returns-in_err-element c =
    let xs = elements_of c.loop-turn.elements in
    let ts = words c.loop-turn.rest.now in
    let p = err_from_is_err_and c.from_residual.result c.from_residual.ensures.1 in
    rw (p.1, p.2) (fails (listed_run element) _ _ (xs, ts) _ c.loop-turn.invariant _ c.loop-turn-test.true (λ n. listed_fail element n xs ts _ c.in_err-element.ensures))

pub returns-in_default : goal.returns-in_default
returns-in_default c =
    let xs = elements_of c.loop-turn.elements in
    let ts = words c.loop-turn.rest.now in
    let h = sym c.punctuator.ensures ∙ ap (option_map (λ rest. words rest.now)) c.in_default.is in
    let items = mapped written_element c.loop-turn.elements.items _ _ c.in_ok-push.ensures.items in
    closes (listed_run element) _ _ (xs, ts) _ c.loop-turn.invariant _ c.loop-turn-test.true (λ n. listed_close element n xs ts (with_rest written_element (c.in_ok-element.element, c.in_ok-element.behind)) c.in_ok-element.ensures h)
    ∙ ap (λ xs. Some (xs, words c.in_ok-element.behind.now)) (sym items)

pub loop-turn-preserved : goal.loop-turn-preserved
loop-turn-preserved c =
    let xs = elements_of c.loop-turn.elements in
    let ts = words c.loop-turn.rest.now in
    let x = with_rest written_element (c.in_ok-element.element, c.in_ok-element.behind) in
    let next = words c.in-Some.next.now in
    let h = sym c.punctuator.ensures ∙ ap (option_map (λ rest. words rest.now)) c.in-Some.is in
    let items = mapped written_element c.loop-turn.elements.items _ _ c.in_ok-push.ensures.items in
    ap (λ xs. listed_run element (c.args.setting.length - (c.loop-turn._turn + 1)) (xs, next)) items
    ∙ goes (listed_run element) _ _ (xs, ts) _ c.loop-turn.invariant (xs ++ x.0 ∷ [], next) c.loop-turn-test.true (λ n. listed_go element n xs ts x next c.in_ok-element.ensures h)
