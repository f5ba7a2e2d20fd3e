use Rattle.std.proofs.Common.{◌+◌, ◌-◌, ◌<◌, ◌≤◌, length, option_map, sym, ap, subst, ◌∙◌, add-one, arith}
use Rattle.std.proofs.lemmas.Result.{err_from_is_err_and}
use Rattle.cparse_cursor.specs.Names.{names_of}
use Rattle.std.proofs.lemmas.List.{length-map}
use Rattle.cparse_cursor.specs.Lexemes.{token_of, tokens_of}
use Rattle.cparse_operand.specs.Infixes.{infix_in}
use Rattle.cparse_grammar.specs.ExpressionReader.{further, subscripts, inside}
use Rattle.cparse_grammar.specs.Reading.{Got}
use Rattle.semantics.specs.Tree.{Exprs}
use Rattle.cparse_cursor.specs.Outcome.{Gives, got_of, subscripts_of}
use Rattle.cparse_operand.specs.OperandViews.{operand_of}
use Rattle.cparse_expr.proofs.RisingLemmas.{binary_fails, binary_goes, rise_ends, rise_fails, rise_goes}
use Rattle.cparse_expr.proofs.LoopLemmas.{in_front, same_some, further_ends, further_fails, further_goes, row_ends, row_is_done, row_fails, row_stays_open, row_goes, arms_fail, arms_go}
use Rattle.cparse_expr.proofs.expression.+expression.Goals as goal

pub further-returns-in_default : goal.further-returns-in_default
further-returns-in_default t c =
    let h = rw add-one at (sym c.next_infix.ensures ∙ ap (option_map (λ found. (infix_in found.operator, tokens_of found.rest.now))) c.in_default.is) in
    sym c.loop-turn.invariant ∙ further_ends _ _ _ _ h

pub further-returns-in_err-right : goal.further-returns-in_err-right
further-returns-in_err-right t c =
    let h = rw add-one at (sym c.next_infix.ensures ∙ ap (option_map (λ found. (infix_in found.operator, tokens_of found.rest.now))) c.in-Some.is) in
    let lt : c.loop-turn._turn < length (tokens_of c.args.left.rest.now) = omega (arith, length-map c.args.left.rest.now token_of) in
    let p = err_from_is_err_and c.from_residual.result c.from_residual.ensures.1 in
    rw (p.1, p.2) (further_fails _ _ _ _ _ _ _ _ lt h c.in_err-right.ensures c.loop-turn.invariant)

pub further-loop-turn-preserved : goal.further-loop-turn-preserved
further-loop-turn-preserved t c =
    let h = rw add-one at (sym c.next_infix.ensures ∙ ap (option_map (λ found. (infix_in found.operator, tokens_of found.rest.now))) c.in-Some.is) in
    let lt : c.loop-turn._turn < length (tokens_of c.args.left.rest.now) = omega (arith, length-map c.args.left.rest.now token_of) in
    ap (further _ _ _) (same_some _ _ (sym c.in_ok-left.ensures)) ∙ further_goes _ _ _ _ _ _ _ _ lt h c.in_ok-right.ensures c.loop-turn.invariant

pub subscripts-returns-in_default : goal.subscripts-returns-in_default
subscripts-returns-in_default t c =
    let h = sym c.if_punctuator.ensures ∙ ap (option_map (λ found. tokens_of found.1.now)) c.in_default.is in
    sym c.loop-turn.invariant ∙ row_ends _ _ (got_of subscripts_of c.loop-turn.row) h

pub subscripts-returns-in_err-subscript : goal.subscripts-returns-in_err-subscript
subscripts-returns-in_err-subscript t c =
    let h = sym c.if_punctuator.ensures ∙ ap (option_map (λ found. tokens_of found.1.now)) c.in-Some.is in
    let lt : c.loop-turn._turn < length (tokens_of c.args.tokens.now) = omega (arith, length-map c.args.tokens.now token_of) in
    let p = err_from_is_err_and c.from_residual.result c.from_residual.ensures.1 in
    rw (p.1, p.2) (row_fails _ _ _ (got_of subscripts_of c.loop-turn.row) _ _ lt h c.loop-turn.invariant _ c.in_err-subscript.ensures)

pub subscripts-returns-in_err-behind : goal.subscripts-returns-in_err-behind
subscripts-returns-in_err-behind t c =
    let h = sym c.if_punctuator.ensures ∙ ap (option_map (λ found. tokens_of found.1.now)) c.in-Some.is in
    let lt : c.loop-turn._turn < length (tokens_of c.args.tokens.now) = omega (arith, length-map c.args.tokens.now token_of) in
    let p = err_from_is_err_and c.from_residual-in_err-behind.result c.from_residual-in_err-behind.ensures.1 in
    rw (p.1, p.2) (row_stays_open _ _ _ (got_of subscripts_of c.loop-turn.row) _ _ lt h c.loop-turn.invariant _ (got_of operand_of c.in_ok-subscript.subscript) c.in_ok-subscript.ensures c.in_err-behind.ensures)

pub subscripts-loop-turn-preserved : goal.subscripts-loop-turn-preserved
subscripts-loop-turn-preserved t c =
    let h = sym c.if_punctuator.ensures ∙ ap (option_map (λ found. tokens_of found.1.now)) c.in-Some.is in
    let lt : c.loop-turn._turn < length (tokens_of c.args.tokens.now) = omega (arith, length-map c.args.tokens.now token_of) in
    ap (λ (r : Got Exprs). in_front r (subscripts (length (tokens_of c.args.tokens.now) - (c.loop-turn._turn + 1)) (inside c.args.room (names_of c.args.context.scope.now)) r.rest)) (same_some _ _ (sym c.in_ok-row.ensures))
    ∙ row_goes _ _ _ (got_of subscripts_of c.loop-turn.row) _ _ lt h c.loop-turn.invariant (got_of operand_of c.in_ok-subscript.subscript) _ c.in_ok-subscript.ensures c.in_ok-behind.ensures

pub subscripts-returns : goal.subscripts-returns
subscripts-returns t c =
    let le : length (tokens_of c.args.tokens.now) ≤ c.loop-turn._turn = omega (arith, length-map c.args.tokens.now token_of) in
    row_is_done _ _ _ (got_of subscripts_of c.loop-turn.row) _ le c.loop-turn.invariant

pub arms-returns-in_err-second : goal.arms-returns-in_err-second
arms-returns-in_err-second t c =
    let p = err_from_is_err_and c.from_residual-in_err-second.result c.from_residual-in_err-second.ensures.1 in
    rw (p.1, p.2) (arms_fail (inside c.args.room (names_of c.args.context.scope.now)) (got_of operand_of c.args.condition) (tokens_of c.args.tokens.now) (got_of operand_of c.in_ok-first.first) c.in_ok-first.ensures _ c.in_err-second.ensures)

pub arms-returns : goal.arms-returns
arms-returns t c =
    rw (arms_go (inside c.args.room (names_of c.args.context.scope.now)) (got_of operand_of c.args.condition) (tokens_of c.args.tokens.now) (got_of operand_of c.in_ok-first.first) c.in_ok-first.ensures (got_of operand_of c.in_ok-second.second) c.in_ok-second.ensures) c.choice.ensures

pub binary-returns-in_err-left : goal.binary-returns-in_err-left
binary-returns-in_err-left t c =
    let p = err_from_is_err_and c.from_residual.result c.from_residual.ensures.1 in
    let f = c.in_err-left.ensures in
    rw (p.1, p.2) (binary_fails (names_of c.args.context.scope.now) (inside c.args.room (names_of c.args.context.scope.now)) _ c.args.precedence (tokens_of c.args.tokens.now) f)

pub binary-returns : goal.binary-returns
binary-returns t c =
    let e = binary_goes (names_of c.args.context.scope.now) (inside c.args.room (names_of c.args.context.scope.now)) c.args.precedence (tokens_of c.args.tokens.now) (got_of operand_of c.in_ok-left.left) c.in_ok-left.ensures in
    subst (Gives (got_of operand_of) c.operators_up_to.result) (sym e) c.operators_up_to.ensures

pub operators_up_to-returns-in_err-left-in-Some : goal.operators_up_to-returns-in_err-left-in-Some
operators_up_to-returns-in_err-left-in-Some t c =
    let p = err_from_is_err_and c.from_residual.result c.from_residual.ensures.1 in
    let here = c.in-Some.ensures in
    rw (p.1, p.2) (rise_fails (names_of c.args.context.scope.now) (inside c.args.room (names_of c.args.context.scope.now)) c.args.reached c.args.precedence c.in-Some.tighter (got_of operand_of c.args.left) here.0 here.1 here.2 _ c.in_err-left-in-Some.ensures)

pub operators_up_to-returns-in-None : goal.operators_up_to-returns-in-None
operators_up_to-returns-in-None t c = rise_ends (names_of c.args.context.scope.now) (inside c.args.room (names_of c.args.context.scope.now)) c.args.reached c.args.precedence (got_of operand_of c.args.left) c.requires.reached c.in-None.ensures

pub operators_up_to-returns-in_ok-left-in-Some : goal.operators_up_to-returns-in_ok-left-in-Some
operators_up_to-returns-in_ok-left-in-Some t c =
    let here = c.in-Some.ensures in
    let e = rise_goes (names_of c.args.context.scope.now) (inside c.args.room (names_of c.args.context.scope.now)) c.args.reached c.args.precedence c.in-Some.tighter (got_of operand_of c.args.left) here.0 here.1 here.2 (got_of operand_of c.in_ok-left-in-Some.left) c.in_ok-left-in-Some.ensures in
    subst (Gives (got_of operand_of) c.operators_up_to.result) (sym e) c.operators_up_to.ensures
