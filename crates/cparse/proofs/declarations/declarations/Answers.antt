use Rattle.std.proofs.Common.{◌<◌, ◌≤◌, length, map, option_map, sym, ap, ◌∙◌, arith}
use Rattle.std.proofs.lemmas.Result.{err_from_is_err_and}
use Rattle.std.proofs.lemmas.List.{length-map}
use Rattle.ktree.specs.View.{declaration_of}
use Rattle.cparse.specs.DeclarationViews.{enumerator_of, decls_of}
use Rattle.cparse_cursor.specs.Names.{names_of}
use Rattle.cparse_cursor.specs.Lexemes.{token_of, tokens_of}
use Rattle.law_grammar.proofs.DeclarationTurns.{decls_run, decls_begin, decls_end, decls_over, enum_goes, variable_goes}
use Rattle.cparse.proofs.DeclarationLemmas.{enum_fails, variable_fails}
use Rattle.cparse.proofs.Leaving.{word_takes_tokens}
use Rattle.cparse_cursor.proofs.Turns.{goes, fails, ends, is_over}
use Rattle.cparse.proofs.declarations.declarations.Goals as goal

pub loop-turn-init : goal.loop-turn-init
loop-turn-init c = record {
  same = decls_begin (length (tokens_of c.args.tokens.now)) (names_of c.args.scope.now) (tokens_of c.args.tokens.now) (map enumerator_of c.new.result.items) (map declaration_of c.new-2.result.items)
      (ap (map enumerator_of) c.new.ensures.items) (ap (map declaration_of) c.new-2.ensures.items);
  few = let none = ap length c.new-2.ensures.items in omega arith;
  fewer = omega arith;
}

pub returns-in_err-row-clause-declared : goal.returns-in_err-row-clause-declared
returns-in_err-row-clause-declared c =
    let h = sym c.if_word.ensures ∙ ap (option_map (λ found. tokens_of found.1.now)) c.in-Some.is in
    let s = decls_of (names_of c.loop-turn.scope) c.loop-turn.row in
    let lt : c.loop-turn._turn < length (tokens_of c.args.tokens.now) = omega (arith, length-map c.args.tokens.now token_of) in
    let p = err_from_is_err_and c.from_residual.result c.from_residual.ensures.1 in
    rw (p.1, p.2) (fails decls_run (length (tokens_of c.args.tokens.now)) c.loop-turn._turn s _ c.loop-turn.invariant.same _ lt (enum_fails _ s _ h c.in_err-row.ensures.step))

pub loop-turn-preserved-in-Some : goal.loop-turn-preserved-in-Some
loop-turn-preserved-in-Some c =
    let h = sym c.if_word.ensures ∙ ap (option_map (λ found. tokens_of found.1.now)) c.in-Some.is in
    let s = decls_of (names_of c.loop-turn.scope) c.loop-turn.row in
    let t = decls_of (names_of c.with_enumeration.new.scope) c.in_ok-row.row in
    let lt : c.loop-turn._turn < length (tokens_of c.args.tokens.now) = omega (arith, length-map c.args.tokens.now token_of) in
    record {
      same = goes decls_run (length (tokens_of c.args.tokens.now)) c.loop-turn._turn s _ c.loop-turn.invariant.same t lt (enum_goes s t _ h c.in_ok-row.ensures.step);
      few = let few = c.loop-turn.invariant.few in let many = c.in_ok-row.ensures.as_many in omega arith;
      fewer = let fewer = c.loop-turn.invariant.fewer in let taken : length c.in-Some.behind.now < length c.loop-turn.row.rest.now = word_takes_tokens _ c.loop-turn.row.rest.now c.in-Some.behind.now h in let left = c.in_ok-row.ensures.fewer in omega arith;
    }

pub returns-in_default-if_word-clause-declared : goal.returns-in_default-if_word-clause-declared
returns-in_default-if_word-clause-declared c =
    let h = sym c.if_word.ensures ∙ ap (option_map (λ found. tokens_of found.1.now)) c.in_default.is in
    let k = sym c.if_word-in-loop-turn.ensures ∙ ap (option_map (λ found. tokens_of found.1.now)) c.in_default-if_word.is in
    let s = decls_of (names_of c.loop-turn.scope) c.loop-turn.row in
    ends decls_run (length (tokens_of c.args.tokens.now)) c.loop-turn._turn s _ c.loop-turn.invariant.same _ (decls_end s h k)

pub returns-in_err-row-2-clause-declared : goal.returns-in_err-row-2-clause-declared
returns-in_err-row-2-clause-declared c =
    let k = sym c.if_word-in-loop-turn.ensures ∙ ap (option_map (λ found. tokens_of found.1.now)) c.in-Some-if_word.is in
    let s = decls_of (names_of c.loop-turn.scope) c.loop-turn.row in
    let lt : c.loop-turn._turn < length (tokens_of c.args.tokens.now) = omega (arith, length-map c.args.tokens.now token_of) in
    let p = err_from_is_err_and c.from_residual-in_err-row-2.result c.from_residual-in_err-row-2.ensures.1 in
    rw (p.1, p.2) (fails decls_run (length (tokens_of c.args.tokens.now)) c.loop-turn._turn s _ c.loop-turn.invariant.same _ lt (variable_fails _ s _ k c.in_err-row-2.ensures.step))

pub loop-turn-preserved : goal.loop-turn-preserved
loop-turn-preserved c =
    let k = sym c.if_word-in-loop-turn.ensures ∙ ap (option_map (λ found. tokens_of found.1.now)) c.in-Some-if_word.is in
    let s = decls_of (names_of c.loop-turn.scope) c.loop-turn.row in
    let t = decls_of (names_of c.with_variable.new.scope) c.in_ok-row-2.row in
    let lt : c.loop-turn._turn < length (tokens_of c.args.tokens.now) = omega (arith, length-map c.args.tokens.now token_of) in
    record {
      same = goes decls_run (length (tokens_of c.args.tokens.now)) c.loop-turn._turn s _ c.loop-turn.invariant.same t lt (variable_goes s t _ k c.in_ok-row-2.ensures.step);
      few = let few = c.loop-turn.invariant.few in let many = c.in_ok-row-2.ensures.one_more in omega arith;
      fewer = let fewer = c.loop-turn.invariant.fewer in let taken : length c.in-Some-if_word.behind.now < length c.loop-turn.row.rest.now = word_takes_tokens _ c.loop-turn.row.rest.now c.in-Some-if_word.behind.now k in let left = c.in_ok-row-2.ensures.fewer in omega arith;
    }

pub returns-clause-declared : goal.returns-clause-declared
returns-clause-declared c =
    let s = decls_of (names_of c.loop-turn.scope) c.loop-turn.row in
    let le : length (tokens_of c.args.tokens.now) ≤ c.loop-turn._turn = omega (arith, length-map c.args.tokens.now token_of) in
    is_over decls_run (length (tokens_of c.args.tokens.now)) c.loop-turn._turn s _ c.loop-turn.invariant.same _ le (decls_over s)
