use Rattle.std.proofs.Common.{◌+◌, ◌<◌, ◌≤◌, ◌≡◌, suc, length, sym, ap, subst, ◌∙◌, arith, rules}
use Rattle.std.proofs.lemmas.List.{length-map}
use Rattle.std.proofs.lemmas.Option.{same_Some}
use Rattle.std.proofs.lemmas.Result.{err_from_is_err_and}
use Rattle.semantics.specs.Tree.{Source, Stmt}
use Rattle.ktree.specs.View.{stmt_of, source_of}
use Rattle.cparse_grammar.specs.Reading.{Got}
use Rattle.cparse_grammar.specs.ExpressionReader.{expression}
use Rattle.cparse_cursor.specs.Outcome.{Gives, got_of}
use Rattle.cparse_cursor.specs.Names.{names_of}
use Rattle.cparse_cursor.specs.Lexemes.{token_of, tokens_of}
use Rattle.cparse_grammar.specs.StatementReader.{Tally, Told, statement, selection}
use Rattle.cparse_grammar.specs.StatementParts.{Row, once, twice, with_item, otherwise}
use Rattle.cparse_stmt.specs.Rows.{row_of, item_of, boxed_of}
use Rattle.cparse_phrase.specs.Headings.{heading_of}
use Rattle.cparse_phrase.specs.Tallies.{tally_of, told_of}
use Rattle.cparse_expr.proofs.LoopLemmas.{same_some, not_there}
use Rattle.cparse_cursor.proofs.Turns.{goes, fails, ends, is_over}
use Rattle.cparse_phrase.proofs.Leaving.{expression_leaves, in_parens_leaves, heading_leaves}
use Rattle.cparse_stmt.proofs.ItemLemmas.{front_then}
use Rattle.cparse_grammar.proofs.HeadingLemmas.{selected}
use Rattle.cparse_stmt.proofs.ItemRun.{items_run, run_ends, run_out, run_fails, run_goes}
use Rattle.cparse_stmt.proofs.Leaving.{item_counts, statement_counts, has_still}
use Rattle.cparse_stmt.proofs.statement.+statement.Goals as goal

pub items-returns-then-not-begins_item-clause-items : goal.items-returns-then-not-begins_item-clause-items
items-returns-then-not-begins_item-clause-items t c =
    let row = row_of (names_of c.loop-turn.scope) c.loop-turn.row in
    let h = sym c.begins_item.ensures ∙ c.if-not-begins_item.true in
    ends (items_run c.args.room (statement c.args.room)) _ _ row _ c.loop-turn.invariant.same _ (λ n. run_ends c.args.room (statement c.args.room) n row h)

pub items-returns-in_err-item-clause-items : goal.items-returns-in_err-item-clause-items
items-returns-in_err-item-clause-items t c =
    let row = row_of (names_of c.loop-turn.scope) c.loop-turn.row in
    let h = sym c.begins_item.ensures ∙ c.if-not-begins_item.false in
    let lt : c.loop-turn._turn < length (tokens_of c.args.tokens.now) = omega (arith, length-map c.args.tokens.now token_of) in
    let p = err_from_is_err_and c.from_residual.result c.from_residual.ensures.1 in
    rw (p.1, p.2) (fails (items_run c.args.room (statement c.args.room)) _ _ row _ c.loop-turn.invariant.same _ lt (λ n. run_fails _ c.args.room (statement c.args.room) n row h c.in_err-item.ensures.item))

pub items-returns-in_err-row-clause-items : goal.items-returns-in_err-row-clause-items
items-returns-in_err-row-clause-items t c =
    let p = err_from_is_err_and c.from_residual-in_err-row.result c.from_residual-in_err-row.ensures.1 in
    rw (p.1, p.2) (not_there _ _ _ (c.in_err-row.ensures (names_of c.loop-turn.scope) (names_of c.loop-turn.scope)))

pub items-loop-turn-preserved : goal.items-loop-turn-preserved
items-loop-turn-preserved t c =
    let row = row_of (names_of c.loop-turn.scope) c.loop-turn.row in
    let inner = names_of c.item.new.scope in
    let h = sym c.begins_item.ensures ∙ c.if-not-begins_item.false in
    let lt : c.loop-turn._turn < length (tokens_of c.args.tokens.now) = omega (arith, length-map c.args.tokens.now token_of) in
    let one = item_of inner c.in_ok-item.item in
    let read = c.in_ok-row.ensures (names_of c.loop-turn.scope) inner in
    let counts = item_counts c.args.room (statement c.args.room) (statement_counts c.args.room) (names_of c.loop-turn.scope) (tally_of c.loop-turn.row.tally) (tokens_of c.loop-turn.row.rest.now) one c.in_ok-item.ensures.item in
    record {
      same =
          ap (items_run c.args.room (statement c.args.room) _) (same_some _ _ (sym (c.in_ok-row.ensures (names_of c.loop-turn.scope) inner)))
          ∙ goes (items_run c.args.room (statement c.args.room)) _ _ row _ c.loop-turn.invariant.same (with_item row (item_of inner c.in_ok-item.item)) lt
          (λ n. run_goes c.args.room (statement c.args.room) n row (item_of inner c.in_ok-item.item) h c.in_ok-item.ensures.item);
      front = front_then c.args.scope.now c.loop-turn.scope c.item.new.scope c.loop-turn.invariant.front c.in_ok-item.ensures.front;
      numbers = has_still c.loop-turn.row.tally c.in_ok-row.row.tally c.loop-turn.row.rest.now c.in_ok-row.row.rest.now c.loop-turn.invariant.numbers
          (subst (λ (r : Row). r.tally.next + length r.rest ≤ c.loop-turn.row.tally.next + length (tokens_of c.loop-turn.row.rest.now)) (same_Some (with_item row one) (row_of inner c.in_ok-row.row) read) counts);
    }

pub items-returns-clause-items : goal.items-returns-clause-items
items-returns-clause-items t c =
    let row = row_of (names_of c.loop-turn.scope) c.loop-turn.row in
    let le : length (tokens_of c.args.tokens.now) ≤ c.loop-turn._turn = omega (arith, length-map c.args.tokens.now token_of) in
    is_over (items_run c.args.room (statement c.args.room)) _ _ row _ c.loop-turn.invariant.same _ le (run_out c.args.room (statement c.args.room) row)

pub selection-returns-clause-statement : goal.selection-returns-clause-statement
selection-returns-clause-statement t c =
    let condition : Got Source = got_of source_of c.in_ok-condition-2.condition in
    let then : Told Stmt = told_of boxed_of c.in_ok-condition-2.then in
    let same_condition = sym c.in_ok-condition-2.ensures.before in
    let whole = rw same_condition at c.in_ok-condition.ensures in
    let read = rw (c.in_ok-condition-2.ensures.body, same_condition) at c.inner-then.ensures.statement in
    let names = rw c.in_ok-condition-2.ensures.body at c.inner-then.ensures.names in
    let e : selection c.args.room (once c.args.room) (twice c.args.room) (names_of c.args.scope.now) (tally_of c.args.tally) (tokens_of c.args.tokens.now) ≡ otherwise (statement c.in_ok-room.room) (names_of c.args.scope.now) condition then =
    selected _ _ _ _ _ _ condition then c.in_ok-outer.ensures c.in_ok-room.ensures whole read in
    let same : otherwise (statement c.in_ok-room.room) (names_of c.inner-then.new.scope) condition then ≡ otherwise (statement c.in_ok-room.room) (names_of c.args.scope.now) condition then =
    ap (λ scope. otherwise (statement c.in_ok-room.room) (names_of scope) condition then) names in
    subst (λ read. Gives (told_of stmt_of) c.otherwise.result read) (same ∙ sym e) c.otherwise.ensures.statement

pub selection-inner-then-requires : goal.selection-inner-then-requires
selection-inner-then-requires t c =
    let scope = names_of c.args.scope.now in
    let condition = c.in_ok-condition.condition in
    let leaves = in_parens_leaves (expression c.in_ok-room.room scope) (expression_leaves c.in_ok-room.room scope) (tokens_of c.args.tokens.now) (got_of source_of condition) c.in_ok-condition.ensures in
    (search rules, has_still c.args.tally c.args.tally c.args.tokens.now condition.rest.now c.requires.numbers (omega (arith, leaves)))

pub selection-otherwise-requires : goal.selection-otherwise-requires
selection-otherwise-requires t c =
    let scope = names_of c.args.scope.now in
    let condition = c.in_ok-condition.condition in
    let then = c.in_ok-condition-2.then in
    let leaves = in_parens_leaves (expression c.in_ok-room.room scope) (expression_leaves c.in_ok-room.room scope) (tokens_of c.args.tokens.now) (got_of source_of condition) c.in_ok-condition.ensures in
    let read = rw c.in_ok-condition-2.ensures.body at c.inner-then.ensures.statement in
    let counts = statement_counts c.in_ok-outer.outer scope (tally_of c.args.tally) (tokens_of condition.rest.now) (told_of boxed_of then) read in
    (search rules, has_still c.args.tally then.tally c.args.tokens.now then.rest.now c.requires.numbers (omega (arith, leaves, counts)))

pub iteration-inner-body-requires : goal.iteration-inner-body-requires
iteration-inner-body-requires t c =
    let leaves = heading_leaves c.in_ok-room.room (names_of c.args.scope.now) (tally_of c.args.tally) (tokens_of c.args.tokens.now) (heading_of c.in_ok-head.head) c.in_ok-head.ensures.heading in
    let all : length (tokens_of c.args.tokens.now) ≡ length c.args.tokens.now = length-map c.args.tokens.now token_of in
    let left : length (tokens_of c.in_ok-head.head.rest.now) ≡ length c.in_ok-head.head.rest.now = length-map c.in_ok-head.head.rest.now token_of in
    let one : c.declare-behind.result.next ≡ suc c.args.tally.next = ap (λ (x : Tally). x.next) c.declare-behind.ensures in
    let asked = c.requires in
    (search rules, omega (arith, leaves, all, left, one, asked))
