use Rattle.std.proofs.Common.{◌≡◌, ◌-◌, length}
use Rattle.cparse_grammar.specs.ExpressionReader.{expression}
use Rattle.cparse_grammar.specs.PrintfReader.{arguments}
use Rattle.cparse_cursor.specs.Names.{names_of}
use Rattle.cparse_cursor.specs.Lexemes.{tokens_of}
use Rattle.cparse_cursor.specs.Outcome.{got_of}
use Rattle.cparse_printf.specs.Spots.{arguments_of}
use Rattle.cparse_printf.proofs.FormatLemmas.{arguments_run}
use Rattle.cparse_printf.proofs.printing.arguments.Given as goal

-- what is left is read as the whole is
abbrev pub invariant-loop-turn : goal.invariant-loop-turn
invariant-loop-turn l =
    let whole = expression l.room (names_of l.context.scope.now) in
    arguments_run whole (length (tokens_of l.tokens) - l._turn) (got_of arguments_of l.row) ≡ arguments (length (tokens_of l.tokens)) whole (tokens_of l.tokens)
