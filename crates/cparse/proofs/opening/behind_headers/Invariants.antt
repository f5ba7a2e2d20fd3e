use Rattle.std.proofs.Common.{◌≡◌, drop}
use Rattle.cparse_grammar.specs.TextReader.{behind_headers}
use Rattle.cparse_cursor.specs.Lexemes.{tokens_of}
use Rattle.cparse.proofs.opening.behind_headers.Given as goal

-- only include lines were passed
abbrev pub invariant-loop-token : goal.invariant-loop-token
invariant-loop-token l = record {
  counted : l.count ≡ l.token-index;
  same : behind_headers (tokens_of (drop l.count l.tokens)) ≡ behind_headers (tokens_of l.tokens);
}
