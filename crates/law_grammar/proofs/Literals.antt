-- Each literal of a text that is read lies in its range; so no literal is too great.
use Rattle.std.specs.Prelude.{ℕ, Bool, true, ◌≡◌, ◌<◌, ◌≤◌, ◌^◌, List, [], ◌∷◌, ◌++◌, Option, codes}
use Rattle.std.specs.List.{list_all}
use Rattle.std.proofs.Common.{inl, inr, refl, sym, ap, ◌∙◌, subst, arith}
use Rattle.std.proofs.lemmas.Bool.{ltb-true}
use Rattle.semantics.specs.Tree.{Name, Suffix, Bare, Ull, Variable, Expr, Exprs, Cond, Source, Increment, Stmt, Items, Declaration, Kernel}
use Rattle.semantics.specs.Source.Token.{Token, Word, IntegerConstant, StringLiteral, Punctuator, Header, Line, EqualSign, CloseParen, CloseBrace, CloseBracket, Question, Colon, DoubleAmp, DoubleBar, Semicolon, Comma}
use Rattle.semantics.specs.Source.Typing.{in_range}
use Rattle.semantics.specs.Source.Scope.{Scope}
use Rattle.semantics.specs.Source.Expressions.{ReadsExpr, literal, enumerator, object, parens, unary, binary, choose, tighter, ReadsSubscripts, no_subscripts, subscript, ReadsCond, numeric, cond_parens, not, compare, both, either, cond_tighter}
use Rattle.semantics.specs.Source.Statements.{ReadsSource, number, truth, ReadsTarget, target, ReadsIncrement, up_before, up_behind, down_before, down_behind, set, change, ReadsFormat, end, last, place, ReadsArguments, no_arguments, argument, ReadsStmt, assign, update, if_only, if_else, for_loop, block, print, ReadsItems, no_more, line, empty_local, first_local, statement}
use Rattle.semantics.specs.Source.Grammar.{ReadsLengths, no_lengths, dimension, ReadsConstants, only, further, ReadsDecls, no_decls, enum, headers, Reads}
use Rattle.semantics.specs.Source.Grammar as grammar
use Rattle.cparse_grammar.specs.SameTokens.{IsSame, AreSame}
use Rattle.cparse_grammar.proofs.Binds.{first_true, second_true, both_true}

-- a literal in its range, or another token
abbrev pub is_fit : Token → Bool
is_fit (IntegerConstant n s) = in_range s n
is_fit _ = true

abbrev pub AreFit : List Token → Type 0
AreFit ts = list_all is_fit ts ≡ true

fit_append : (ts us : List Token) → AreFit ts → AreFit us → AreFit (ts ++ us)
fit_append [] us h k = k
fit_append (t ∷ ts) us h k = both_true (first_true (is_fit t) _ h) (fit_append ts us (second_true (is_fit t) _ h) k)

mutual
  pub expr_fit : {scope : Scope} {o l : ℕ} {ts : List Token} {e : Expr} → ReadsExpr scope o l ts e → AreFit ts
  expr_fit (literal r) = both_true r refl
  expr_fit (enumerator f) = refl
  expr_fit (object f r) = subscript_fit r
  expr_fit (parens {ts = ts} b r) = fit_append ts (Punctuator CloseParen ∷ []) (expr_fit r) refl
  expr_fit (unary b u t r) = expr_fit r
  expr_fit (binary {ts = ts} {us = us} {sign = s} b f r q) = fit_append ts (Punctuator s ∷ us) (expr_fit r) (expr_fit q)
  expr_fit (choose {ts = ts} {us = us} {vs = vs} b c r q) = fit_append ts (Punctuator Question ∷ (us ++ Punctuator Colon ∷ vs)) (cond_fit c) (fit_append us (Punctuator Colon ∷ vs) (expr_fit r) (expr_fit q))
  expr_fit (tighter r) = expr_fit r

  pub subscript_fit : {scope : Scope} {o : ℕ} {ts : List Token} {is : Exprs} → ReadsSubscripts scope o ts is → AreFit ts
  subscript_fit no_subscripts = refl
  subscript_fit (subscript {ts = ts} {us = us} b r q) = fit_append ts (Punctuator CloseBracket ∷ us) (expr_fit r) (subscript_fit q)

  pub cond_fit : {scope : Scope} {o l : ℕ} {ts : List Token} {c : Cond} → ReadsCond scope o l ts c → AreFit ts
  cond_fit (numeric r) = expr_fit r
  cond_fit (cond_parens {ts = ts} b r) = fit_append ts (Punctuator CloseParen ∷ []) (cond_fit r) refl
  cond_fit (not b r) = cond_fit r
  cond_fit (compare {ts = ts} {us = us} {sign = s} b f r q) = fit_append ts (Punctuator s ∷ us) (expr_fit r) (expr_fit q)
  cond_fit (both {ts = ts} {us = us} r q) = fit_append ts (Punctuator DoubleAmp ∷ us) (cond_fit r) (cond_fit q)
  cond_fit (either {ts = ts} {us = us} r q) = fit_append ts (Punctuator DoubleBar ∷ us) (cond_fit r) (cond_fit q)
  cond_fit (cond_tighter r) = cond_fit r

source_fit : {scope : Scope} {o : ℕ} {ts : List Token} {e : Source} → ReadsSource scope o ts e → AreFit ts
source_fit (number r) = expr_fit r
source_fit (truth t r) = cond_fit r

target_fit : {scope : Scope} {o : ℕ} {ts : List Token} {x : Variable} {is : Exprs} → ReadsTarget scope o ts x is → AreFit ts
target_fit (target f r) = subscript_fit r

increment_fit : {scope : Scope} {o : ℕ} {ts : List Token} {e : Increment} → ReadsIncrement scope o ts e → AreFit ts
increment_fit (up_before f) = refl
increment_fit (up_behind f) = refl
increment_fit (down_before f) = refl
increment_fit (down_behind f) = refl
increment_fit (set f r) = source_fit r
increment_fit (change f u r) = expr_fit r

format_fit : {ts : List Token} {ps : List (Option (List ℕ))} → ReadsFormat ts ps → AreFit ts
format_fit end = refl
format_fit last = refl
format_fit (place r) = format_fit r

argument_fit : {scope : Scope} {o : ℕ} {ts : List Token} {es : List Expr} → ReadsArguments scope o ts es → AreFit ts
argument_fit no_arguments = refl
argument_fit (argument {ts = ts} {us = us} t p r q) = fit_append ts us (expr_fit r) (argument_fit q)

mutual
  pub stmt_fit : {scope : Scope} {o next next' : ℕ} {ts : List Token} {s : Stmt} → ReadsStmt scope o next ts s next' → AreFit ts
  stmt_fit (assign {ts = ts} {us = us} a e) = fit_append ts (Punctuator EqualSign ∷ (us ++ Punctuator Semicolon ∷ [])) (target_fit a) (fit_append us (Punctuator Semicolon ∷ []) (source_fit e) refl)
  stmt_fit (update {ts = ts} {us = us} {sign = s} a u e) = fit_append ts (Punctuator s ∷ (us ++ Punctuator Semicolon ∷ [])) (target_fit a) (fit_append us (Punctuator Semicolon ∷ []) (expr_fit e) refl)
  stmt_fit (if_only {ts = ts} {us = us} b c r) = fit_append ts (Punctuator CloseParen ∷ us) (cond_fit c) (stmt_fit r)
  stmt_fit (if_else {ts = ts} {us = us} {vs = vs} b c d r q) = fit_append ts (Punctuator CloseParen ∷ (us ++ Word (codes "else") ∷ vs)) (cond_fit c) (fit_append us (Word (codes "else") ∷ vs) (stmt_fit r) (stmt_fit q))
  stmt_fit (for_loop {ts = ts} {us = us} {vs = vs} {ws = ws} b f s t i r) =
      fit_append ts (Punctuator Semicolon ∷ (us ++ Punctuator Semicolon ∷ (vs ++ Punctuator CloseParen ∷ ws))) (source_fit s)
      (fit_append us (Punctuator Semicolon ∷ (vs ++ Punctuator CloseParen ∷ ws)) (cond_fit t) (fit_append vs (Punctuator CloseParen ∷ ws) (increment_fit i) (stmt_fit r)))
  stmt_fit (block {ts = ts} b r) = fit_append ts (Punctuator CloseBrace ∷ []) (items_fit r) refl
  stmt_fit (print {ts = ts} {us = us} b f a p) = fit_append ts (us ++ Punctuator CloseParen ∷ Punctuator Semicolon ∷ []) (format_fit f) (fit_append us (Punctuator CloseParen ∷ Punctuator Semicolon ∷ []) (argument_fit a) refl)

  pub items_fit : {scope : Scope} {o next next' : ℕ} {ts : List Token} {s : Items} → ReadsItems scope o next ts s next' → AreFit ts
  items_fit no_more = refl
  items_fit (line r) = items_fit r
  items_fit (empty_local f r) = items_fit r
  items_fit (first_local {ts = ts} {us = us} f e r) = fit_append ts (Punctuator Semicolon ∷ us) (source_fit e) (items_fit r)
  items_fit (statement {ts = ts} {us = us} r q) = fit_append ts us (stmt_fit r) (items_fit q)

lengths_fit : {scope : Scope} {ts : List Token} {ns : List ℕ} → ReadsLengths scope ts ns → AreFit ts
lengths_fit no_lengths = refl
lengths_fit (dimension {ts = ts} {us = us} r c q) = fit_append ts (Punctuator CloseBracket ∷ us) (expr_fit r) (lengths_fit q)

constants_fit : {scope : Scope} {ts : List Token} {cs : List (Name × ℕ)} → ReadsConstants scope ts cs → AreFit ts
constants_fit (only f r c) = expr_fit r
constants_fit (further {ts = ts} {us = us} f r c q) = fit_append ts (Punctuator Comma ∷ us) (expr_fit r) (constants_fit q)

decls_fit : {scope scope' : Scope} {next : ℕ} {ts : List Token} {cs : List (Name × ℕ)} {vs : List Declaration} → ReadsDecls scope next ts cs vs scope' → AreFit ts
decls_fit no_decls = refl
decls_fit (enum {ts = ts} {us = us} r q) = fit_append ts (Punctuator CloseBrace ∷ Punctuator Semicolon ∷ us) (constants_fit r) (decls_fit q)
decls_fit (grammar.object {ts = ts} {us = us} f most r q) = fit_append ts (Punctuator Semicolon ∷ us) (lengths_fit r) (decls_fit q)

headers_fit : (hs : List ℕ) → AreFit (headers hs)
headers_fit [] = refl
headers_fit (h ∷ hs) = headers_fit hs

-- all of a text's literals
pub reads_fit : (ts : List Token) (tree : Kernel) → Reads ts tree → AreFit ts
reads_fit ts tree r =
    subst AreFit (sym r.all)
    (fit_append (headers r.includes) _ (headers_fit r.includes) (fit_append r.decls _ (decls_fit r.declared) (fit_append r.body (Punctuator CloseBrace ∷ []) (items_fit r.items) refl)))

-- a literal in its range is not too great
small : (s : Suffix) (n : ℕ) → in_range s n ≡ true → 2 ^ 64 ≤ n → ⊥
small Bare n h k = let l : n < 2 ^ 31 = ltb-true n (2 ^ 31) h in omega arith
small Ull n h k = let l : n < 2 ^ 64 = ltb-true n (2 ^ 64) h in omega arith

fit_same : (t u : Token) → is_fit t ≡ true → IsSame t u → t ≡ u
fit_same (IntegerConstant m s) (IntegerConstant n u) h (e, inl f) = ap (λ x. IntegerConstant x s) f ∙ ap (λ x. IntegerConstant n x) e
fit_same (IntegerConstant m s) (IntegerConstant n u) h (e, inr f) = absurd (small s m h f.0)
fit_same (IntegerConstant m s) (Word w) h e = e
fit_same (IntegerConstant m s) (StringLiteral cs o) h e = e
fit_same (IntegerConstant m s) (Punctuator x) h e = e
fit_same (IntegerConstant m s) (Header n) h e = e
fit_same (IntegerConstant m s) (Line n) h e = e
fit_same (Word w) u h e = e
fit_same (StringLiteral cs o) u h e = e
fit_same (Punctuator x) u h e = e
fit_same (Header n) u h e = e
fit_same (Line n) u h e = e

-- where no literal is too great, the same tokens are equal
pub fit_are : (ts us : List Token) → AreFit ts → AreSame ts us → ts ≡ us
fit_are [] [] h k = refl
fit_are (t ∷ ts) (u ∷ us) h k = ap (λ x. x ∷ ts) (fit_same t u (first_true (is_fit t) _ h) k.0) ∙ ap (λ xs. u ∷ xs) (fit_are ts us (second_true (is_fit t) _ h) k.1)
fit_are [] (u ∷ us) h k = absurd k
fit_are (t ∷ ts) [] h k = absurd k

same_back : (t u : Token) → IsSame t u → IsSame u t
same_back (IntegerConstant m s) (IntegerConstant n u) (e, inl f) = (sym e, inl (sym f))
same_back (IntegerConstant m s) (IntegerConstant n u) (e, inr f) = (sym e, inr (f.1, f.0))
same_back (IntegerConstant m s) (Word w) e = sym e
same_back (IntegerConstant m s) (StringLiteral cs o) e = sym e
same_back (IntegerConstant m s) (Punctuator x) e = sym e
same_back (IntegerConstant m s) (Header n) e = sym e
same_back (IntegerConstant m s) (Line n) e = sym e
same_back (Word w) (IntegerConstant n u) e = sym e
same_back (Word w) u e = sym e
same_back (StringLiteral cs o) (IntegerConstant n u) e = sym e
same_back (StringLiteral cs o) u e = sym e
same_back (Punctuator x) (IntegerConstant n u) e = sym e
same_back (Punctuator x) u e = sym e
same_back (Header m) (IntegerConstant n u) e = sym e
same_back (Header m) u e = sym e
same_back (Line m) (IntegerConstant n u) e = sym e
same_back (Line m) u e = sym e

pub are_back : (ts us : List Token) → AreSame ts us → AreSame us ts
are_back [] [] k = k
are_back (t ∷ ts) (u ∷ us) k = (same_back t u k.0, are_back ts us k.1)
are_back [] (u ∷ us) k = absurd k
are_back (t ∷ ts) [] k = absurd k
