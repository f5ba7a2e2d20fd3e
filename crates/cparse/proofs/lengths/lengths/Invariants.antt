use Rattle.std.proofs.Common.{◌≡◌, ◌-◌, length}
use Rattle.cparse_grammar.specs.TextReader.{lengths}
use Rattle.cparse_cursor.specs.Names.{names_of}
use Rattle.cparse_cursor.specs.Lexemes.{tokens_of}
use Rattle.cparse_cursor.specs.Outcome.{got_of}
use Rattle.cparse.proofs.DeclarationLemmas.{lengths_run}
use Rattle.cparse.proofs.lengths.lengths.Given as goal

-- reading on behind the row gives what reading from the beginning gives
abbrev pub invariant-loop-turn : goal.invariant-loop-turn
invariant-loop-turn l =
    let scope = names_of l.context.scope.now in
    let count = length (tokens_of l.tokens) in
    lengths_run scope (count - l._turn) (got_of (λ v. v.items) l.row) ≡ lengths count scope (tokens_of l.tokens)
