-- Worked rows of whole texts: a text with its tokens and its tree, and directive lines.
use Rattle.std.specs.Prelude.{ℕ, List, [], ◌∷◌, ◌++◌, pos, negsuc, codes}
use Rattle.semantics.specs.Tree.{Bare, Literal, no_exprs, Number, Assign, mark, stmt, no_items, Kernel}
use Rattle.semantics.specs.Source.Token.{Token, Word, IntegerConstant, Punctuator, Line, Semicolon, OpenParen, CloseParen, OpenBrace, CloseBrace, EqualSign}
use Rattle.semantics.specs.Source.Grammar.{ReadsText}
use Rattle.semantics.specs.Directives.Directive.{ParallelFor, DoacrossSink, ScheduledBy, DynamicSize, Private}
use Rattle.semantics.specs.Directives.DirectiveGrammar.{ReadsLine}

-- a declaration, a directive line, and an assignment
abbrev pub small : List ℕ
small = codes "uint64_t s;" ++ 10 ∷ (codes "void kernel(void) {" ++ 10 ∷ (codes "#pragma omp x" ++ 10 ∷ (codes "s=1; }" ++ 10 ∷ [])))

abbrev pub small_tokens : List Token
small_tokens =
    Word (codes "uint64_t") ∷ Word (codes "s") ∷ Punctuator Semicolon
    ∷ Word (codes "void") ∷ Word (codes "kernel") ∷ Punctuator OpenParen ∷ Word (codes "void") ∷ Punctuator CloseParen ∷ Punctuator OpenBrace
    ∷ Line 3 ∷ Word (codes "s") ∷ Punctuator EqualSign ∷ IntegerConstant 1 Bare ∷ Punctuator Semicolon ∷ Punctuator CloseBrace ∷ []

abbrev pub small_tree : Kernel
small_tree =
    record {
      constants = [];
      variables = record { name = codes "s"; lengths = [] } ∷ [];
      body = mark 3 (stmt (Assign 0 no_exprs (Number (Literal 1 Bare))) no_items);
    }

-- the rows
pub record TextRows : Type 0 where
  pub small_text : ReadsText small small_tree
  -- a directive line with two clauses and a comma between them
  pub line_read : ReadsLine (codes "#pragma omp parallel for schedule(dynamic, 3), private(x, y)")
      (ParallelFor (ScheduledBy (DynamicSize 3) ∷ Private (codes "x" ∷ codes "y" ∷ []) ∷ []))
  pub sink_read : ReadsLine (codes " # pragma omp ordered doacross( sink : i-1,j )") (DoacrossSink ((codes "i", negsuc 0) ∷ (codes "j", pos 0) ∷ []))
