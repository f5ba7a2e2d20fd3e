use Rattle.std.proofs.Common.{◌<◌, length, option_map, sym, ap, ◌∙◌, arith}
use Rattle.std.proofs.lemmas.List.{length-map}
use Rattle.cparse_grammar.specs.ExpressionReader.{expression}
use Rattle.cparse_cursor.specs.Names.{names_of}
use Rattle.cparse_cursor.specs.Lexemes.{token_of, tokens_of}
use Rattle.cparse_cursor.specs.Outcome.{got_of}
use Rattle.cparse_operand.specs.OperandViews.{operand_of}
use Rattle.cparse_printf.specs.Spots.{arguments_of}
use Rattle.cparse_expr.proofs.LoopLemmas.{same_some}
use Rattle.cparse_cursor.proofs.Turns.{goes, ends}
use Rattle.cparse_printf.proofs.FormatLemmas.{arguments_run, arguments_over, arguments_go}
use Rattle.cparse_printf.proofs.printing.arguments.Goals as goal

pub returns-in_default : goal.returns-in_default
returns-in_default c =
    let whole = expression c.args.room (names_of c.args.context.scope.now) in
    let h = sym c.if_punctuator.ensures ∙ ap (option_map (λ found. tokens_of found.1.now)) c.in_default.is in
    ends (arguments_run whole) _ _ (got_of arguments_of c.loop-turn.row) _ c.loop-turn.invariant _ (λ n. arguments_over whole n (got_of arguments_of c.loop-turn.row) h)

pub loop-turn-preserved : goal.loop-turn-preserved
loop-turn-preserved c =
    let whole = expression c.args.room (names_of c.args.context.scope.now) in
    let lt : c.loop-turn._turn < length (tokens_of c.args.tokens.now) = omega (arith, length-map c.args.tokens.now token_of) in
    let h = sym c.if_punctuator.ensures ∙ ap (option_map (λ found. tokens_of found.1.now)) c.in-Some.is in
    ap (arguments_run whole _) (same_some _ _ (sym c.in_ok-row.ensures))
    ∙ goes (arguments_run whole) _ _ (got_of arguments_of c.loop-turn.row) _ c.loop-turn.invariant _ lt (λ n. arguments_go whole n (got_of arguments_of c.loop-turn.row) _ (got_of operand_of c.in_ok-argument.argument) h c.in_ok-argument.ensures)
