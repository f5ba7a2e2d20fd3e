use Rattle.std.proofs.Common.{◌≡◌, ◌≤◌, ◌-◌, length}
use Rattle.cparse_grammar.specs.TextReader.{declarations}
use Rattle.cparse.specs.DeclarationViews.{decls_of}
use Rattle.cparse_cursor.specs.Names.{names_of}
use Rattle.cparse_cursor.specs.Lexemes.{tokens_of}
use Rattle.law_grammar.proofs.DeclarationTurns.{decls_run}
use Rattle.cparse.proofs.declarations.declarations.Given as goal

-- reading on from here gives what reading from the beginning gives; a turn declares one variable at most, and adds no token
abbrev pub invariant-loop-turn : goal.invariant-loop-turn
invariant-loop-turn l =
    let count = length (tokens_of l.tokens) in
    record {
      same : decls_run (count - l._turn) (decls_of (names_of l.scope) l.row) ≡ declarations count (names_of l.fn.scope) 0 (tokens_of l.tokens);
      few : length l.row.variables.items ≤ l._turn;
      fewer : length l.row.rest.now ≤ length l.tokens;
    }
