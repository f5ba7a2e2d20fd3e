use Rattle.std.proofs.Common.{◌≡◌, ◌-◌, length}
use Rattle.semantics.specs.Source.Scope.{with_constants}
use Rattle.cparse_grammar.specs.TextReader.{constants}
use Rattle.cparse.specs.DeclarationViews.{enumerators_of}
use Rattle.cparse_cursor.specs.Names.{names_of}
use Rattle.cparse_cursor.specs.Lexemes.{tokens_of}
use Rattle.cparse_cursor.specs.Outcome.{got_of}
use Rattle.cparse.proofs.ConstantLemmas.{constants_run}
use Rattle.cparse.proofs.constants.constants.Given as goal

-- reading on behind the row gives what reading from the beginning gives, and its constants are visible
abbrev pub invariant-loop-turn : goal.invariant-loop-turn
invariant-loop-turn l =
    let count = length (tokens_of l.tokens) in
    record {
      turns : constants_run (count - l._turn) (got_of enumerators_of l.row, names_of l.scope) ≡ constants count (names_of l.fn.scope) (tokens_of l.tokens);
      visible : names_of l.scope ≡ with_constants (enumerators_of l.row.tree) (names_of l.fn.scope);
    }
