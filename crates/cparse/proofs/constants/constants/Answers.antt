use Rattle.std.proofs.Common.{ℕ, ◌≡◌, ◌+◌, ◌-◌, ◌<◌, ◌≤◌, ◌∷◌, length, Some, map, option_map, refl, sym, ap, ◌∙◌, arith}
use Rattle.std.proofs.lemmas.Result.{err_from_is_err_and}
use Rattle.std.proofs.lemmas.List.{length-map}
use Rattle.semantics.specs.Source.Scope.{with_constants}
use Rattle.cparse_grammar.specs.NextTokens.{comma}
use Rattle.cparse_grammar.specs.DeclarationSteps.{and_then, visible}
use Rattle.cparse.specs.DeclarationViews.{enumerator_of, enumerators_of, valued_of}
use Rattle.cparse_cursor.specs.Names.{names_of}
use Rattle.cparse_cursor.specs.Lexemes.{token_of, tokens_of}
use Rattle.cparse_cursor.specs.Outcome.{got_of}
use Rattle.cparse_expr.proofs.LoopLemmas.{same_some}
use Rattle.cparse.proofs.ConstantLemmas.{constants_run, constants_begin, constants_fail, constants_last, constants_more, with_last}
use Rattle.cparse_cursor.proofs.Turns.{goes, fails, closes, is_over}
use Rattle.cparse.proofs.constants.constants.Goals as goal

pub loop-turn-init : goal.loop-turn-init
loop-turn-init c =
    record {
      turns = constants_begin (length (tokens_of c.args.tokens.now)) (names_of c.args.scope.now) (tokens_of c.args.tokens.now) (map enumerator_of c.new.result.items) (ap (map enumerator_of) c.new.ensures.items);
      visible = ap (λ xs. with_constants (map enumerator_of xs) (names_of c.args.scope.now)) (sym c.new.ensures.items);
    }

pub returns-in_err-one-clause-constants : goal.returns-in_err-one-clause-constants
returns-in_err-one-clause-constants c =
    let lt : c.loop-turn._turn < length (tokens_of c.args.tokens.now) = omega (arith, length-map c.args.tokens.now token_of) in
    let p = err_from_is_err_and c.from_residual.result c.from_residual.ensures.1 in
    rw (p.1, p.2) (fails constants_run (length (tokens_of c.args.tokens.now)) c.loop-turn._turn (got_of enumerators_of c.loop-turn.row, names_of c.loop-turn.scope) _ c.loop-turn.invariant.turns _ lt
    (constants_fail _ (got_of enumerators_of c.loop-turn.row) (names_of c.loop-turn.scope) c.in_err-one.ensures))

pub returns-in-None-clause-constants : goal.returns-in-None-clause-constants
returns-in-None-clause-constants c =
    let row = got_of enumerators_of c.loop-turn.row in
    let one = got_of valued_of c.in_ok-one.one in
    let is : and_then row one ≡ got_of enumerators_of c.in_ok-row.row = same_some _ _ c.in_ok-row.ensures.row in
    let h = ap (λ g. comma g.rest) is ∙ sym c.if_punctuator.ensures ∙ ap (option_map (λ found. tokens_of found.1.now)) c.in-None.is in
    let lt : c.loop-turn._turn < length (tokens_of c.args.tokens.now) = omega (arith, length-map c.args.tokens.now token_of) in
    closes constants_run (length (tokens_of c.args.tokens.now)) c.loop-turn._turn (row, names_of c.loop-turn.scope) _ c.loop-turn.invariant.turns (Some (got_of enumerators_of c.in_ok-row.row)) lt
    (λ n. constants_last row (names_of c.loop-turn.scope) one c.in_ok-one.ensures h n ∙ c.in_ok-row.ensures.row)

pub returns-in-None-clause-visible : goal.returns-in-None-clause-visible
returns-in-None-clause-visible c =
    let row = got_of enumerators_of c.loop-turn.row in
    let one = got_of valued_of c.in_ok-one.one in
    c.in_ok-row.ensures.visible ∙ ap (λ s. visible one.tree ∷ s) c.loop-turn.invariant.visible ∙ sym (with_last row.tree one.tree (names_of c.args.scope.now))
    ∙ ap (λ g. with_constants g.tree (names_of c.args.scope.now)) (same_some (and_then row one) (got_of enumerators_of c.in_ok-row.row) c.in_ok-row.ensures.row)

pub loop-turn-preserved : goal.loop-turn-preserved
loop-turn-preserved c =
    let row = got_of enumerators_of c.loop-turn.row in
    let one = got_of valued_of c.in_ok-one.one in
    let is : and_then row one ≡ got_of enumerators_of c.in_ok-row.row = same_some _ _ c.in_ok-row.ensures.row in
    let h = ap (λ g. comma g.rest) is ∙ sym c.if_punctuator.ensures ∙ ap (option_map (λ found. tokens_of found.1.now)) c.in-Some.is in
    let lt : c.loop-turn._turn < length (tokens_of c.args.tokens.now) = omega (arith, length-map c.args.tokens.now token_of) in
    let left : ℕ = length (tokens_of c.args.tokens.now) - (c.loop-turn._turn + 1) in
    record {
      turns =
          ap (λ s. constants_run left (record { tree = enumerators_of c.in_ok-row.row.tree; sound = (got_of enumerators_of c.in_ok-row.row).sound; rest = tokens_of c.in-Some.rest.now }, s)) c.in_ok-row.ensures.visible
          ∙ ap (λ g. constants_run left (record { tree = g.tree; sound = g.sound; rest = tokens_of c.in-Some.rest.now }, visible one.tree ∷ names_of c.loop-turn.scope)) (sym is)
          ∙ goes constants_run (length (tokens_of c.args.tokens.now)) c.loop-turn._turn (row, names_of c.loop-turn.scope) _ c.loop-turn.invariant.turns _ lt
          (constants_more row (names_of c.loop-turn.scope) one (tokens_of c.in-Some.rest.now) c.in_ok-one.ensures h);
      visible =
          c.in_ok-row.ensures.visible ∙ ap (λ s. visible one.tree ∷ s) c.loop-turn.invariant.visible ∙ sym (with_last row.tree one.tree (names_of c.args.scope.now))
          ∙ ap (λ g. with_constants g.tree (names_of c.args.scope.now)) is;
    }

pub returns-clause-constants : goal.returns-clause-constants
returns-clause-constants c =
    let le : length (tokens_of c.args.tokens.now) ≤ c.loop-turn._turn = omega (arith, length-map c.args.tokens.now token_of) in
    is_over constants_run (length (tokens_of c.args.tokens.now)) c.loop-turn._turn (got_of enumerators_of c.loop-turn.row, names_of c.loop-turn.scope) _ c.loop-turn.invariant.turns _ le refl
