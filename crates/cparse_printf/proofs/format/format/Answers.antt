use Rattle.std.proofs.Common.{◌<◌, length, sym, ap, ◌∙◌, arith}
use Rattle.std.proofs.lemmas.List.{length-map}
use Rattle.std.proofs.lemmas.Result.{err_from_is_err_and}
use Rattle.cparse_cursor.specs.Lexemes.{token_of, tokens_of}
use Rattle.cparse_cursor.specs.Outcome.{got_of}
use Rattle.cparse_grammar.specs.PrintfSteps.{with_turn}
use Rattle.cparse_printf.specs.Spots.{spots_of, turn_of}
use Rattle.cparse_expr.proofs.LoopLemmas.{same_some}
use Rattle.cparse_cursor.proofs.Turns.{goes, fails}
use Rattle.cparse_printf.proofs.FormatLemmas.{format_run, format_goes, format_fails}
use Rattle.cparse_printf.proofs.format.format.Goals as goal

pub returns-in_err-turn : goal.returns-in_err-turn
returns-in_err-turn c =
    let lt : c.loop-turn._turn < length (tokens_of c.args.tokens.now) = omega (arith, length-map c.args.tokens.now token_of) in
    let p = err_from_is_err_and c.from_residual.result c.from_residual.ensures.1 in
    rw (p.1, p.2) (fails format_run _ _ (got_of spots_of c.loop-turn.row) _ c.loop-turn.invariant _ lt (λ n. format_fails _ n (got_of spots_of c.loop-turn.row) c.in_err-turn.ensures))

pub loop-turn-preserved : goal.loop-turn-preserved
loop-turn-preserved c =
    let lt : c.loop-turn._turn < length (tokens_of c.args.tokens.now) = omega (arith, length-map c.args.tokens.now token_of) in
    ap (format_run _) (same_some _ _ (sym c.in_ok-row.ensures))
    ∙ goes format_run _ _ (got_of spots_of c.loop-turn.row) _ c.loop-turn.invariant (with_turn (got_of spots_of c.loop-turn.row) (turn_of c.in_ok-turn.turn)) lt (λ n. format_goes n (got_of spots_of c.loop-turn.row) (turn_of c.in_ok-turn.turn) c.in_ok-turn.ensures c.if-not-more.false)
