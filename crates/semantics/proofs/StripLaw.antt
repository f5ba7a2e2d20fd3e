-- Dropping directive lines from the tokens strips them from the tree.
use Rattle.std.specs.Prelude.{ℕ, Bool, true, false, ◌≡◌, if◌then◌else◌, Option, List, [], ◌∷◌, ◌++◌, codes}
use Rattle.std.proofs.Common.{cond, refl, sym, ap, ◌∙◌, subst}
use Rattle.semantics.specs.Tree.{Expr, Exprs, Cond, Source, Increment, Stmt, Items, Variable, strip_stmt, strip_items, Assign, Update, If, IfElse, For, Block, Print}
use Rattle.semantics.specs.Source.Token.{Token, Word, IntegerConstant, StringLiteral, Punctuator, Header, Line, EqualSign, OpenParen, CloseParen, OpenBrace, CloseBrace, OpenBracket, CloseBracket, Question, Colon, Bang, DoubleAmp, DoubleBar, Semicolon, Comma}
use Rattle.semantics.specs.Source.Scope.{Scope}
use Rattle.semantics.specs.Source.Expressions.{ReadsExpr, literal, enumerator, object, parens, unary, binary, choose, tighter, ReadsSubscripts, no_subscripts, subscript, ReadsCond, numeric, cond_parens, not, compare, both, either, cond_tighter}
use Rattle.semantics.specs.Source.Statements.{ReadsSource, number, truth, ReadsTarget, target, ReadsIncrement, up_before, up_behind, down_before, down_behind, set, change, ReadsFormat, end, last, place, ReadsArguments, no_arguments, argument, ReadsStmt, assign, update, if_only, if_else, for_loop, block, print, ReadsItems, no_more, line, empty_local, first_local, statement, is_closed}

abbrev pub is_line : Token → Bool
is_line (Word w) = false
is_line (IntegerConstant n suffix) = false
is_line (StringLiteral bs b) = false
is_line (Punctuator s) = false
is_line (Header h) = false
is_line (Line n) = true

abbrev pub drop_lines : List Token → List Token
drop_lines [] = []
drop_lines (t ∷ ts) = if is_line t then drop_lines ts else t ∷ drop_lines ts

cond-append : (b : Bool) (t : Token) (ts us : List Token) → cond b ts (t ∷ ts) ++ us ≡ cond b (ts ++ us) (t ∷ (ts ++ us))
cond-append true t ts us = refl
cond-append false t ts us = refl

pub drop_lines-append : (ts us : List Token) → drop_lines (ts ++ us) ≡ drop_lines ts ++ drop_lines us
drop_lines-append [] us = refl
drop_lines-append (t ∷ ts) us = ap (λ xs. cond (is_line t) xs (t ∷ xs)) (drop_lines-append ts us) ∙ sym (cond-append (is_line t) t (drop_lines ts) (drop_lines us))

-- two parts with a token that stays between them
pub around : (ts us : List Token) (t : Token) → is_line t ≡ false → drop_lines ts ≡ ts → drop_lines us ≡ us → drop_lines (ts ++ t ∷ us) ≡ ts ++ t ∷ us
around ts us t e p q = drop_lines-append ts (t ∷ us) ∙ ap (λ xs. xs ++ drop_lines (t ∷ us)) p ∙ ap (λ b. ts ++ cond b (drop_lines us) (t ∷ drop_lines us)) e ∙ ap (λ xs. ts ++ t ∷ xs) q

mutual
  -- no directive line stands in an expression
  pub expr_lines : {scope : Scope} {o l : ℕ} {ts : List Token} {e : Expr} → ReadsExpr scope o l ts e → drop_lines ts ≡ ts
  expr_lines (literal r) = refl
  expr_lines (enumerator f) = refl
  expr_lines (object {name = n} f r) = ap (λ xs. Word n ∷ xs) (subscript_lines r)
  expr_lines (parens {ts = ts} b r) = ap (λ xs. Punctuator OpenParen ∷ xs) (around ts [] (Punctuator CloseParen) refl (expr_lines r) refl)
  expr_lines (unary {sign = s} b u t r) = ap (λ xs. Punctuator s ∷ xs) (expr_lines r)
  expr_lines (binary {ts = ts} {us = us} {sign = s} b f r q) = around ts us (Punctuator s) refl (expr_lines r) (expr_lines q)
  expr_lines (choose {ts = ts} {us = us} {vs = vs} b c r q) = around ts (us ++ Punctuator Colon ∷ vs) (Punctuator Question) refl (cond_lines c) (around us vs (Punctuator Colon) refl (expr_lines r) (expr_lines q))
  expr_lines (tighter r) = expr_lines r

  pub subscript_lines : {scope : Scope} {o : ℕ} {ts : List Token} {is : Exprs} → ReadsSubscripts scope o ts is → drop_lines ts ≡ ts
  subscript_lines no_subscripts = refl
  subscript_lines (subscript {ts = ts} {us = us} b r q) = ap (λ xs. Punctuator OpenBracket ∷ xs) (around ts us (Punctuator CloseBracket) refl (expr_lines r) (subscript_lines q))

  pub cond_lines : {scope : Scope} {o l : ℕ} {ts : List Token} {c : Cond} → ReadsCond scope o l ts c → drop_lines ts ≡ ts
  cond_lines (numeric r) = expr_lines r
  cond_lines (cond_parens {ts = ts} b r) = ap (λ xs. Punctuator OpenParen ∷ xs) (around ts [] (Punctuator CloseParen) refl (cond_lines r) refl)
  cond_lines (not b r) = ap (λ xs. Punctuator Bang ∷ xs) (cond_lines r)
  cond_lines (compare {ts = ts} {us = us} {sign = s} b f r q) = around ts us (Punctuator s) refl (expr_lines r) (expr_lines q)
  cond_lines (both {ts = ts} {us = us} r q) = around ts us (Punctuator DoubleAmp) refl (cond_lines r) (cond_lines q)
  cond_lines (either {ts = ts} {us = us} r q) = around ts us (Punctuator DoubleBar) refl (cond_lines r) (cond_lines q)
  cond_lines (cond_tighter r) = cond_lines r

source_lines : {scope : Scope} {o : ℕ} {ts : List Token} {e : Source} → ReadsSource scope o ts e → drop_lines ts ≡ ts
source_lines (number r) = expr_lines r
source_lines (truth t r) = cond_lines r

target_lines : {scope : Scope} {o : ℕ} {ts : List Token} {x : Variable} {is : Exprs} → ReadsTarget scope o ts x is → drop_lines ts ≡ ts
target_lines (target {name = n} f r) = ap (λ xs. Word n ∷ xs) (subscript_lines r)

increment_lines : {scope : Scope} {o : ℕ} {ts : List Token} {e : Increment} → ReadsIncrement scope o ts e → drop_lines ts ≡ ts
increment_lines (up_before f) = refl
increment_lines (up_behind f) = refl
increment_lines (down_before f) = refl
increment_lines (down_behind f) = refl
increment_lines (set {name = n} f r) = ap (λ xs. Word n ∷ Punctuator EqualSign ∷ xs) (source_lines r)
increment_lines (change {name = n} {sign = s} f u r) = ap (λ xs. Word n ∷ Punctuator s ∷ xs) (expr_lines r)

format_lines : {ts : List Token} {ps : List (Option (List ℕ))} → ReadsFormat ts ps → drop_lines ts ≡ ts
format_lines end = refl
format_lines last = refl
format_lines (place {bs = bs} r) = ap (λ xs. StringLiteral bs true ∷ Word (codes "PRIu64") ∷ xs) (format_lines r)

argument_lines : {scope : Scope} {o : ℕ} {ts : List Token} {es : List Expr} → ReadsArguments scope o ts es → drop_lines ts ≡ ts
argument_lines no_arguments = refl
argument_lines (argument {ts = ts} {us = us} t p r q) = ap (λ xs. Punctuator Comma ∷ xs) (drop_lines-append ts us ∙ ap (λ xs. xs ++ drop_lines us) (expr_lines r) ∙ ap (λ xs. ts ++ xs) (argument_lines q))

closed_strip : (a : Stmt) → is_closed a ≡ true → is_closed (strip_stmt a) ≡ true
closed_strip (Assign x is e) h = h
closed_strip (Update x is op e) h = h
closed_strip (If c a) h = h
closed_strip (IfElse c a b) h = closed_strip b h
closed_strip (For x name start test step body) h = closed_strip body h
closed_strip (Block items) h = h
closed_strip (Print parts) h = h

-- what stays in front, and a rest that is read without its lines
pub behind_kept : (ts us : List Token) (t : Token) → is_line t ≡ false → drop_lines ts ≡ ts → ts ++ t ∷ drop_lines us ≡ drop_lines (ts ++ t ∷ us)
behind_kept ts us t e p = sym (drop_lines-append ts (t ∷ us) ∙ ap (λ xs. xs ++ drop_lines (t ∷ us)) p ∙ ap (λ b. ts ++ cond b (drop_lines us) (t ∷ drop_lines us)) e)

at_tokens : {scope : Scope} {o next next' : ℕ} {ts us : List Token} {s : Stmt} → ts ≡ us → ReadsStmt scope o next ts s next' → ReadsStmt scope o next us s next'
at_tokens {scope} {o} {next} {next'} {s = s} e r = subst (λ xs. ReadsStmt scope o next xs s next') e r

items_at_tokens : {scope : Scope} {o next next' : ℕ} {ts us : List Token} {s : Items} → ts ≡ us → ReadsItems scope o next ts s next' → ReadsItems scope o next us s next'
items_at_tokens {scope} {o} {next} {next'} {s = s} e r = subst (λ xs. ReadsItems scope o next xs s next') e r

mutual
  pub stmt_strips : {scope : Scope} {o next next' : ℕ} {ts : List Token} {s : Stmt} → ReadsStmt scope o next ts s next' → ReadsStmt scope o next (drop_lines ts) (strip_stmt s) next'
  stmt_strips (assign {ts = ts} {us = us} a e) =
      at_tokens (sym (around ts (us ++ Punctuator Semicolon ∷ []) (Punctuator EqualSign) refl (target_lines a) (around us [] (Punctuator Semicolon) refl (source_lines e) refl))) (assign a e)
  stmt_strips (update {ts = ts} {us = us} {sign = s} a u e) =
      at_tokens (sym (around ts (us ++ Punctuator Semicolon ∷ []) (Punctuator s) refl (target_lines a) (around us [] (Punctuator Semicolon) refl (expr_lines e) refl))) (update a u e)
  stmt_strips (if_only {ts = ts} {us = us} b c r) =
      at_tokens (ap (λ xs. Word (codes "if") ∷ Punctuator OpenParen ∷ xs) (behind_kept ts us (Punctuator CloseParen) refl (cond_lines c))) (if_only b c (stmt_strips r))
  stmt_strips (if_else {a = a} {ts = ts} {us = us} {vs = vs} b c k r q) =
      at_tokens (ap (λ xs. Word (codes "if") ∷ Punctuator OpenParen ∷ xs) (ap (λ xs. ts ++ Punctuator CloseParen ∷ xs) (sym (drop_lines-append us (Word (codes "else") ∷ vs))) ∙ behind_kept ts (us ++ Word (codes "else") ∷ vs) (Punctuator CloseParen) refl (cond_lines c))) (if_else b c (closed_strip a k) (stmt_strips r) (stmt_strips q))
  stmt_strips (for_loop {name = n} {ts = ts} {us = us} {vs = vs} {ws = ws} b f s t i r) =
      at_tokens (ap (λ xs. Word (codes "for") ∷ Punctuator OpenParen ∷ Word (codes "uint64_t") ∷ Word n ∷ Punctuator EqualSign ∷ xs) (ap (λ xs. ts ++ Punctuator Semicolon ∷ xs) (ap (λ xs. us ++ Punctuator Semicolon ∷ xs) (behind_kept vs ws (Punctuator CloseParen) refl (increment_lines i)) ∙ behind_kept us (vs ++ Punctuator CloseParen ∷ ws) (Punctuator Semicolon) refl (cond_lines t)) ∙ behind_kept ts (us ++ Punctuator Semicolon ∷ (vs ++ Punctuator CloseParen ∷ ws)) (Punctuator Semicolon) refl (source_lines s))) (for_loop b f s t i (stmt_strips r))
  stmt_strips (block {ts = ts} b r) = at_tokens (ap (λ xs. Punctuator OpenBrace ∷ xs) (sym (drop_lines-append ts (Punctuator CloseBrace ∷ [])))) (block b (items_strips r))
  stmt_strips (print {ts = ts} {us = us} b f a p) =
      at_tokens (sym (ap (λ xs. Word (codes "printf") ∷ Punctuator OpenParen ∷ xs) (drop_lines-append ts (us ++ Punctuator CloseParen ∷ Punctuator Semicolon ∷ []) ∙ ap (λ xs. xs ++ drop_lines (us ++ Punctuator CloseParen ∷ Punctuator Semicolon ∷ [])) (format_lines f) ∙ ap (λ xs. ts ++ xs) (around us (Punctuator Semicolon ∷ []) (Punctuator CloseParen) refl (argument_lines a) refl)))) (print b f a p)

  pub items_strips : {scope : Scope} {o next next' : ℕ} {ts : List Token} {s : Items} → ReadsItems scope o next ts s next' → ReadsItems scope o next (drop_lines ts) (strip_items s) next'
  items_strips no_more = no_more
  items_strips (line r) = items_strips r
  items_strips (empty_local f r) = empty_local f (items_strips r)
  items_strips (first_local {name = n} {ts = ts} {us = us} f e r) =
      items_at_tokens (ap (λ xs. Word (codes "uint64_t") ∷ Word n ∷ Punctuator EqualSign ∷ xs) (behind_kept ts us (Punctuator Semicolon) refl (source_lines e))) (first_local f e (items_strips r))
  items_strips (statement {ts = ts} {us = us} r q) = items_at_tokens (sym (drop_lines-append ts us)) (statement (stmt_strips r) (items_strips q))
