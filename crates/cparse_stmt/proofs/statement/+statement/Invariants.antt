use Rattle.std.proofs.Common.{◌≡◌, ◌+◌, ◌-◌, ◌*◌, length, take}
use Rattle.cparse_cursor.specs.Names.{names_of}
use Rattle.cparse_cursor.specs.Lexemes.{tokens_of}
use Rattle.cparse_grammar.specs.StatementReader.{statement, items}
use Rattle.cparse_phrase.specs.Tallies.{HasNumbers, tally_of}
use Rattle.cparse_stmt.specs.Rows.{row_of}
use Rattle.cparse_stmt.proofs.ItemRun.{items_run}
use Rattle.cparse_stmt.proofs.statement.+statement.Given as goal

-- each call has less room, or is of a function further down

abbrev pub decreases-items : goal.decreases-items
decreases-items l = 9 * l.room + 8

abbrev pub decreases-item : goal.decreases-item
decreases-item l = 9 * l.room + 7

abbrev pub decreases-statement_item : goal.decreases-statement_item
decreases-statement_item l = 9 * l.room + 6

abbrev pub decreases-inner : goal.decreases-inner
decreases-inner l = 9 * l.room + 5

abbrev pub decreases-statement : goal.decreases-statement
decreases-statement l = 9 * l.room + 4

abbrev pub decreases-count_statement : goal.decreases-count_statement
decreases-count_statement l = 9 * l.room + 3

abbrev pub decreases-statement_behind : goal.decreases-statement_behind
decreases-statement_behind l = 9 * l.room + 2

abbrev pub decreases-block : goal.decreases-block
decreases-block l = 9 * l.room + 1

abbrev pub decreases-selection : goal.decreases-selection
decreases-selection l = 9 * l.room + 1

-- there is less room behind the first statement of an `if`
abbrev pub decreases-otherwise : goal.decreases-otherwise
decreases-otherwise l = 9 * l.room + 6

abbrev pub decreases-iteration : goal.decreases-iteration
decreases-iteration l = 9 * l.room + 1

-- what is left is read as the whole is, the names from before are still there, and the numbers that are left suffice
abbrev pub invariant-items-loop-turn : goal.invariant-items-loop-turn
invariant-items-loop-turn l =
    let read = statement l.room in
    let count = length (tokens_of l.tokens) in
    record {
      same : items_run l.room read (count - l._turn) (row_of (names_of l.scope) l.row) ≡ items count l.room read (names_of l.fn.scope) (tally_of l.fn.tally) (tokens_of l.tokens);
      front : take (length l.fn.scope) l.scope ≡ l.fn.scope;
      numbers : HasNumbers l.row.tally l.row.rest.now;
    }
