use Rattle.std.proofs.Common.{[], ◌∷◌, ◌++◌, ◌+◌, ◌-◌, sym, ap, subst, ◌∙◌}
use Rattle.std.proofs.lemmas.Result.{err_from_is_err_and}
use Rattle.semantics.specs.Directives.DirectiveGrammar.{words}
use Rattle.cparse_cursor.proofs.Turns.{goes, closes}
use Rattle.pragma_clause.specs.ClauseReader.{clause}
use Rattle.pragma_clause.specs.Outcome.{Fails}
use Rattle.pragma_clause.specs.Views.{with_rest, written_clause, clauses_of}
use Rattle.pragma_clause.proofs.Loops.{fails, clauses_run, clauses_close, clauses_go, clauses_fail, mapped}
use Rattle.pragma_clause.proofs.clauses.further.Goals as goal

pub returns-then-is_end : goal.returns-then-is_end
returns-then-is_end c =
    let exact = c.args.setting.exact in
    let most = c.args.setting.length in
    let cs = clauses_of c.loop-turn.clauses in
    let ts = words c.loop-turn.rest.now in
    closes (clauses_run exact most) _ _ (cs, ts) _ c.loop-turn.invariant _ c.loop-turn-test.true (λ n. clauses_close exact most n cs ts (sym c.is_end.ensures ∙ c.if-is_end.true))

pub returns-in_err-next : goal.returns-in_err-next
returns-in_err-next c =
    let exact = c.args.setting.exact in
    let most = c.args.setting.length in
    let cs = clauses_of c.loop-turn.clauses in
    let ts = words c.loop-turn.rest.now in
    let h = subst (λ us. Fails c.in_err-next.field-0.0 (clause exact most us)) c.behind_comma.ensures c.in_err-next.ensures in
    let p = err_from_is_err_and c.from_residual.result c.from_residual.ensures.1 in
    rw (p.1, p.2) (fails (clauses_run exact most) _ _ (cs, ts) _ c.loop-turn.invariant _ c.loop-turn-test.true (λ n. clauses_fail exact most _ n cs ts (sym c.is_end.ensures ∙ c.if-is_end.false) h))

pub loop-turn-preserved : goal.loop-turn-preserved
loop-turn-preserved c =
    let exact = c.args.setting.exact in
    let most = c.args.setting.length in
    let cs = clauses_of c.loop-turn.clauses in
    let ts = words c.loop-turn.rest.now in
    let x = with_rest written_clause (c.in_ok-next.next, c.in_ok-next.behind) in
    let h = ap (clause exact most) (sym c.behind_comma.ensures) ∙ c.in_ok-next.ensures in
    let items = mapped written_clause c.loop-turn.clauses.items _ _ c.in_ok-push.ensures.items in
    ap (λ cs. clauses_run exact most (most - (c.loop-turn._turn + 1)) (cs, x.1)) items
    ∙ goes (clauses_run exact most) _ _ (cs, ts) _ c.loop-turn.invariant (cs ++ x.0 ∷ [], x.1) c.loop-turn-test.true (λ n. clauses_go exact most n cs ts x (sym c.is_end.ensures ∙ c.if-is_end.false) h)
