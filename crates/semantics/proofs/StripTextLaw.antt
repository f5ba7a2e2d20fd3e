-- Dropping directive lines from a text's tokens strips them from its tree.
use Rattle.std.specs.Prelude.{ℕ, ◌≡◌, ◌≤◌, ◌+◌, List, [], ◌∷◌, ◌++◌, codes}
use Rattle.std.proofs.Common.{refl, sym, ap, ◌∙◌, subst}
use Rattle.semantics.specs.Tree.{Name, Declaration, Kernel, Stmt, Items, Assign, Update, If, IfElse, For, Block, Print, no_items, mark, local, stmt, strip, strip_stmt, strip_items}
use Rattle.semantics.specs.Source.Token.{Token, Word, Punctuator, Header, EqualSign, OpenParen, CloseParen, OpenBrace, CloseBrace, OpenBracket, CloseBracket, Semicolon, Comma}
use Rattle.semantics.specs.Source.Scope.{Scope}
use Rattle.semantics.specs.Source.Statements.{stmt_count, statement_count}
use Rattle.semantics.specs.Source.Grammar.{ReadsLengths, no_lengths, dimension, ReadsConstants, only, further, ReadsDecls, no_decls, enum, object, headers, Reads}
use Rattle.semantics.proofs.StripLaw.{drop_lines, drop_lines-append, around, expr_lines, items_strips}

lengths_lines : {scope : Scope} {ts : List Token} {ns : List ℕ} → ReadsLengths scope ts ns → drop_lines ts ≡ ts
lengths_lines no_lengths = refl
lengths_lines (dimension {ts = ts} {us = us} r c q) = ap (λ xs. Punctuator OpenBracket ∷ xs) (around ts us (Punctuator CloseBracket) refl (expr_lines r) (lengths_lines q))

constants_lines : {scope : Scope} {ts : List Token} {cs : List (Name × ℕ)} → ReadsConstants scope ts cs → drop_lines ts ≡ ts
constants_lines (only {name = w} f r c) = ap (λ xs. Word w ∷ Punctuator EqualSign ∷ xs) (expr_lines r)
constants_lines (further {name = w} {ts = ts} {us = us} f r c q) = ap (λ xs. Word w ∷ Punctuator EqualSign ∷ xs) (around ts us (Punctuator Comma) refl (expr_lines r) (constants_lines q))

decls_lines : {scope scope' : Scope} {next : ℕ} {ts : List Token} {cs : List (Name × ℕ)} {vs : List Declaration} → ReadsDecls scope next ts cs vs scope' → drop_lines ts ≡ ts
decls_lines no_decls = refl
decls_lines (enum {ts = ts} {us = us} r q) =
    ap (λ xs. Word (codes "enum") ∷ Punctuator OpenBrace ∷ xs) (around ts (Punctuator Semicolon ∷ us) (Punctuator CloseBrace) refl (constants_lines r) (ap (λ xs. Punctuator Semicolon ∷ xs) (decls_lines q)))
decls_lines (object {name = w} {ts = ts} {us = us} f b r q) =
    ap (λ xs. Word (codes "uint64_t") ∷ Word w ∷ xs) (around ts us (Punctuator Semicolon) refl (lengths_lines r) (decls_lines q))

headers_lines : (hs : List ℕ) → drop_lines (headers hs) ≡ headers hs
headers_lines [] = refl
headers_lines (h ∷ hs) = ap (λ xs. Header h ∷ xs) (headers_lines hs)

mutual
  stmt_count-strip : (s : Stmt) → stmt_count (strip_stmt s) ≡ stmt_count s
  stmt_count-strip (Assign x is e) = refl
  stmt_count-strip (Update x is op e) = refl
  stmt_count-strip (If c a) = ap (λ n. 1 + n) (stmt_count-strip a)
  stmt_count-strip (IfElse c a b) = ap (λ n. 1 + n + stmt_count (strip_stmt b)) (stmt_count-strip a) ∙ ap (λ n. 1 + stmt_count a + n) (stmt_count-strip b)
  stmt_count-strip (For x name start test step body) = ap (λ n. 1 + n) (stmt_count-strip body)
  stmt_count-strip (Block items) = ap (λ n. 1 + n) (statement_count-strip items)
  stmt_count-strip (Print parts) = refl

  statement_count-strip : (items : Items) → statement_count (strip_items items) ≡ statement_count items
  statement_count-strip no_items = refl
  statement_count-strip (mark n rest) = statement_count-strip rest
  statement_count-strip (local x name e rest) = statement_count-strip rest
  statement_count-strip (stmt s rest) = ap (λ n. n + statement_count (strip_items rest)) (stmt_count-strip s) ∙ ap (λ n. stmt_count s + n) (statement_count-strip rest)

abbrev kernel_tokens : List Token → List Token
kernel_tokens body = Word (codes "void") ∷ Word (codes "kernel") ∷ Punctuator OpenParen ∷ Word (codes "void") ∷ Punctuator CloseParen ∷ Punctuator OpenBrace ∷ (body ++ Punctuator CloseBrace ∷ [])

kernel_lines : (hs : List ℕ) (ds body : List Token) → drop_lines ds ≡ ds → drop_lines (headers hs ++ (ds ++ kernel_tokens body)) ≡ headers hs ++ (ds ++ kernel_tokens (drop_lines body))
kernel_lines hs ds body e =
    drop_lines-append (headers hs) (ds ++ kernel_tokens body)
    ∙ ap (λ xs. xs ++ drop_lines (ds ++ kernel_tokens body)) (headers_lines hs)
    ∙ ap (λ xs. headers hs ++ xs) (drop_lines-append ds (kernel_tokens body) ∙ ap (λ xs. xs ++ drop_lines (kernel_tokens body)) e)
    ∙ ap (λ xs. headers hs ++ (ds ++ Word (codes "void") ∷ Word (codes "kernel") ∷ Punctuator OpenParen ∷ Word (codes "void") ∷ Punctuator CloseParen ∷ Punctuator OpenBrace ∷ xs)) (drop_lines-append body (Punctuator CloseBrace ∷ []))

pub reads_strips : {ts : List Token} {tree : Kernel} → Reads ts tree → Reads (drop_lines ts) (strip tree)
reads_strips {ts} {tree} r =
    record {
      includes = r.includes;
      scope = r.scope;
      next = r.next;
      decls = r.decls;
      body = drop_lines r.body;
      all = ap drop_lines r.all ∙ kernel_lines r.includes r.decls r.body (decls_lines r.declared);
      declared = r.declared;
      items = items_strips r.items;
      statements = subst (λ n. n ≤ 4096) (sym (statement_count-strip tree.body)) r.statements;
      within = r.within;
    }
