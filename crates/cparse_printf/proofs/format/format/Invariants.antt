use Rattle.std.proofs.Common.{◌≡◌, ◌-◌, length}
use Rattle.cparse_grammar.specs.PrintfReader.{format}
use Rattle.cparse_cursor.specs.Lexemes.{tokens_of}
use Rattle.cparse_cursor.specs.Outcome.{got_of}
use Rattle.cparse_printf.specs.Spots.{spots_of}
use Rattle.cparse_printf.proofs.FormatLemmas.{format_run}
use Rattle.cparse_printf.proofs.format.format.Given as goal

-- what is left is read as the whole is
abbrev pub invariant-loop-turn : goal.invariant-loop-turn
invariant-loop-turn l = format_run (length (tokens_of l.tokens) - l._turn) (got_of spots_of l.row) ≡ format (length (tokens_of l.tokens)) (tokens_of l.tokens)
