use Rattle.std.proofs.Common.{ℕ, ◌<◌, ◌≤◌, length, option_map, sym, ap, ◌∙◌, arith}
use Rattle.std.proofs.lemmas.Result.{err_from_is_err_and}
use Rattle.std.proofs.lemmas.List.{length-map}
use Rattle.cparse_grammar.specs.DeclarationSteps.{and_then}
use Rattle.cparse_cursor.specs.Names.{names_of}
use Rattle.cparse_cursor.specs.Lexemes.{token_of, tokens_of}
use Rattle.cparse_cursor.specs.Outcome.{got_of}
use Rattle.cparse.proofs.DeclarationLemmas.{lengths_run, lengths_begin, lengths_end, lengths_fail, lengths_step, lengths_over, same_got}
use Rattle.cparse_cursor.proofs.Turns.{goes, fails, ends, is_over}
use Rattle.cparse.proofs.lengths.lengths.Goals as goal

pub loop-turn-init : goal.loop-turn-init
loop-turn-init c = lengths_begin _ _ _ _ c.new.ensures.items

pub returns-in_default : goal.returns-in_default
returns-in_default c =
    let h = sym c.if_punctuator.ensures ∙ ap (option_map (λ found. tokens_of found.1.now)) c.in_default.is in
    let scope = names_of c.args.context.scope.now in
    ends (lengths_run scope) (length (tokens_of c.args.tokens.now)) c.loop-turn._turn (got_of (λ v. v.items) c.loop-turn.row) _ c.loop-turn.invariant _ (lengths_end scope (got_of (λ v. v.items) c.loop-turn.row) h)

pub returns-in_err-one : goal.returns-in_err-one
returns-in_err-one c =
    let h = sym c.if_punctuator.ensures ∙ ap (option_map (λ found. tokens_of found.1.now)) c.in-Some.is in
    let scope = names_of c.args.context.scope.now in
    let lt : c.loop-turn._turn < length (tokens_of c.args.tokens.now) = omega (arith, length-map c.args.tokens.now token_of) in
    let p = err_from_is_err_and c.from_residual.result c.from_residual.ensures.1 in
    rw (p.1, p.2) (fails (lengths_run scope) (length (tokens_of c.args.tokens.now)) c.loop-turn._turn (got_of (λ v. v.items) c.loop-turn.row) _ c.loop-turn.invariant _ lt
    (lengths_fail _ scope (got_of (λ v. v.items) c.loop-turn.row) _ h c.in_err-one.ensures))

pub loop-turn-preserved : goal.loop-turn-preserved
loop-turn-preserved c =
    let h = sym c.if_punctuator.ensures ∙ ap (option_map (λ found. tokens_of found.1.now)) c.in-Some.is in
    let scope = names_of c.args.context.scope.now in
    let lt : c.loop-turn._turn < length (tokens_of c.args.tokens.now) = omega (arith, length-map c.args.tokens.now token_of) in
    ap (lengths_run scope _) (same_got (got_of (λ v. v.items) c.in_ok-row.row) _ _ _ c.in_ok-row.ensures.tree c.in_ok-row.ensures.fault (ap (λ r. tokens_of r.now) c.in_ok-row.ensures.rest))
    ∙ goes (lengths_run scope) (length (tokens_of c.args.tokens.now)) c.loop-turn._turn (got_of (λ v. v.items) c.loop-turn.row) _ c.loop-turn.invariant (and_then (got_of (λ v. v.items) c.loop-turn.row) (got_of (λ (n : ℕ). n) c.in_ok-one.one)) lt
    (lengths_step scope (got_of (λ v. v.items) c.loop-turn.row) _ (got_of (λ (n : ℕ). n) c.in_ok-one.one) h c.in_ok-one.ensures)

pub returns : goal.returns
returns c =
    let scope = names_of c.args.context.scope.now in
    let le : length (tokens_of c.args.tokens.now) ≤ c.loop-turn._turn = omega (arith, length-map c.args.tokens.now token_of) in
    is_over (lengths_run scope) (length (tokens_of c.args.tokens.now)) c.loop-turn._turn (got_of (λ v. v.items) c.loop-turn.row) _ c.loop-turn.invariant _ le (lengths_over scope (got_of (λ v. v.items) c.loop-turn.row))
