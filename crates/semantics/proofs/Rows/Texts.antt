-- They hold by computation.
use Rattle.std.specs.Prelude.{[], ◌∷◌, pos, negsuc, codes}
use Rattle.std.proofs.Common.{refl, arith}
use Rattle.semantics.specs.Tree.{Bare}
use Rattle.semantics.specs.Source.Token.{Word, IntegerConstant, Punctuator, Line, Semicolon, OpenParen, CloseParen, OpenBrace, CloseBrace, EqualSign}
use Rattle.semantics.specs.Source.Cuts.{Tokens, end, blank, line_end, directive, token, word, number, symbol}
use Rattle.semantics.specs.Source.Scope.{AVariable}
use Rattle.semantics.specs.Source.Expressions.{literal, tighter, no_subscripts}
use Rattle.semantics.specs.Source.Statements.{assign, target, statement, no_more}
use Rattle.semantics.specs.Source.Statements.{number as a_number, line as a_line}
use Rattle.semantics.specs.Source.Grammar.{Reads, ReadsText, no_decls, object, no_lengths}
use Rattle.semantics.specs.Directives.Directive.{ParallelFor, DoacrossSink, ScheduledBy, DynamicSize, Private}
use Rattle.semantics.specs.Directives.DirectiveGrammar.{ReadsLine, parallel_for, first, next_behind_comma, no_further, schedule, dynamic_size, private, further, only, sink, element, only_element, here, below}
use Rattle.semantics.specs.Directives.DirectiveGrammar.{number as a_size}
use Rattle.semantics.specs.Rows.Texts.{small, small_tokens, small_tree, TextRows}

small_cut : Tokens small small_tokens
small_cut =
    record {
      bytes = refl;
      plain = refl;
      cut =
          token (word {w = codes "uint64_t"} refl refl) (blank refl (token (word {w = codes "s"} refl refl) (token (symbol {s = Semicolon} refl) (line_end
          (token (word {w = codes "void"} refl refl) (blank refl (token (word {w = codes "kernel"} refl refl) (token (symbol {s = OpenParen} refl)
          (token (word {w = codes "void"} refl refl) (token (symbol {s = CloseParen} refl) (blank refl (token (symbol {s = OpenBrace} refl) (line_end
          (directive (codes "#pragma omp x") refl refl refl
          (token (word {w = codes "s"} refl refl) (token (symbol {s = EqualSign} refl) (token (number (codes "1") Bare refl refl) (token (symbol {s = Semicolon} refl)
          (blank refl (token (symbol {s = CloseBrace} refl) (line_end end)))))))))))))))))))));
      headers = refl;
      places = refl;
    }

small_reads : Reads small_tokens small_tree
small_reads =
    record {
      includes = [];
      scope = (codes "s", AVariable 0 0) ∷ [];
      next = 1;
      decls = Word (codes "uint64_t") ∷ Word (codes "s") ∷ Punctuator Semicolon ∷ [];
      body = Line 3 ∷ Word (codes "s") ∷ Punctuator EqualSign ∷ IntegerConstant 1 Bare ∷ Punctuator Semicolon ∷ [];
      all = refl;
      declared = object (record { word = refl; unused = refl }) (omega arith) no_lengths no_decls;
      items =
          a_line (statement (assign (target refl no_subscripts) (a_number
          (tighter (tighter (tighter (tighter (tighter (tighter (tighter (tighter (tighter (tighter (tighter (tighter (literal refl))))))))))))))) no_more);
      statements = omega arith;
      within = omega arith;
    }

small_text : ReadsText small small_tree
small_text = record { tokens = small_tokens; cut = small_cut; reads = small_reads; length = omega arith }

row_line_read : ReadsLine (codes "#pragma omp parallel for schedule(dynamic, 3), private(x, y)")
    (ParallelFor (ScheduledBy (DynamicSize 3) ∷ Private (codes "x" ∷ codes "y" ∷ []) ∷ []))
row_line_read =
    record {
      is_line = refl;
      reads =
          parallel_for
          (first (schedule (dynamic_size (a_size {ds = codes "3"} refl refl)))
          (next_behind_comma (private (further {w = codes "x"} refl (only {w = codes "y"} refl))) no_further)) refl refl;
    }

row_sink_read : ReadsLine (codes " # pragma omp ordered doacross( sink : i-1,j )") (DoacrossSink ((codes "i", negsuc 0) ∷ (codes "j", pos 0) ∷ []))
row_sink_read = record { is_line = refl; reads = sink (element (below {w = codes "i"} (codes "1") Bare refl refl refl) (only_element (here {w = codes "j"} refl))) }

pub rows : TextRows
rows =
    record {
      small_text = small_text;
      line_read = row_line_read;
      sink_read = row_sink_read;
    }
