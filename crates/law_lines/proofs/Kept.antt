-- What is left of a tree of the grammar without some directive lines is read from what is left of its tokens.
use Rattle.std.specs.Prelude.{ℕ, Bool, true, false, ◌≡◌, ◌≤◌, ◌+◌, if◌then◌else◌, List, [], ◌∷◌, ◌++◌, codes}
use Rattle.std.proofs.Common.{refl, sym, ap, ◌∙◌, subst}
use Rattle.semantics.specs.Tree.{Stmt, Assign, Update, If, IfElse, For, Block, Print, Items, no_items, mark, local, stmt, Kernel}
use Rattle.semantics.specs.Source.Token.{Token, Word, Punctuator, OpenParen, CloseParen, OpenBrace, CloseBrace}
use Rattle.semantics.specs.Source.Scope.{Scope}
use Rattle.semantics.specs.Source.Statements.{ReadsStmt, assign, update, if_only, if_else, for_loop, block, print, ReadsItems, no_more, line, empty_local, first_local, statement, is_closed, stmt_count, statement_count}
use Rattle.semantics.specs.Source.Grammar.{Reads, headers}
use Rattle.law_lines.specs.Without.{without_in, without_among, HasTokens}
use Rattle.law_lines.specs.Laws.{KeptLinesAreRead}

-- a statement, and items, are read from some tokens
record HasStmt (scope : Scope) (o next : ℕ) (s : Stmt) (next' : ℕ) : Type 0 where
  tokens : List Token
  reads : ReadsStmt scope o next tokens s next'

record HasItems (scope : Scope) (o next : ℕ) (items : Items) (next' : ℕ) : Type 0 where
  tokens : List Token
  reads : ReadsItems scope o next tokens items next'

closed_without : (out : ℕ → Bool) (a : Stmt) → is_closed a ≡ true → is_closed (without_in out a) ≡ true
closed_without out (Assign x is e) h = h
closed_without out (Update x is op e) h = h
closed_without out (If c a) h = h
closed_without out (IfElse c a b) h = closed_without out b h
closed_without out (For x name start test step body) h = closed_without out body h
closed_without out (Block items) h = h
closed_without out (Print parts) h = h

line_kept : {scope : Scope} {o next next' : ℕ} (b : Bool) (n : ℕ) (items : Items) → HasItems scope o next items next' → HasItems scope o next (if b then items else mark n items) next'
line_kept true n items h = h
line_kept false n items h = record { tokens = _; reads = line {n = n} h.reads }

mutual
  stmt_kept : {scope : Scope} {o next next' : ℕ} {ts : List Token} {s : Stmt} (out : ℕ → Bool) → ReadsStmt scope o next ts s next' → HasStmt scope o next (without_in out s) next'
  stmt_kept out (assign a e) = record { tokens = _; reads = assign a e }
  stmt_kept out (update a u e) = record { tokens = _; reads = update a u e }
  stmt_kept out (if_only b c r) = record { tokens = _; reads = if_only b c (stmt_kept out r).reads }
  stmt_kept out (if_else {a = a} b c k r q) = record { tokens = _; reads = if_else b c (closed_without out a k) (stmt_kept out r).reads (stmt_kept out q).reads }
  stmt_kept out (for_loop b f s t i r) = record { tokens = _; reads = for_loop b f s t i (stmt_kept out r).reads }
  stmt_kept out (block b r) = record { tokens = _; reads = block b (items_kept out r).reads }
  stmt_kept out (print b f a p) = record { tokens = _; reads = print b f a p }

  items_kept : {scope : Scope} {o next next' : ℕ} {ts : List Token} {items : Items} (out : ℕ → Bool) → ReadsItems scope o next ts items next' → HasItems scope o next (without_among out items) next'
  items_kept out no_more = record { tokens = []; reads = no_more }
  items_kept out (line {n = n} {items = items} r) = line_kept (out n) n (without_among out items) (items_kept out r)
  items_kept out (empty_local f r) = record { tokens = _; reads = empty_local f (items_kept out r).reads }
  items_kept out (first_local f e r) = record { tokens = _; reads = first_local f e (items_kept out r).reads }
  items_kept out (statement r q) = record { tokens = _; reads = statement (stmt_kept out r).reads (items_kept out q).reads }

line_counted : (b : Bool) (n : ℕ) (items : Items) → statement_count (if b then items else mark n items) ≡ statement_count items
line_counted true n items = refl
line_counted false n items = refl

mutual
  count_in : (out : ℕ → Bool) (s : Stmt) → stmt_count (without_in out s) ≡ stmt_count s
  count_in out (Assign x is e) = refl
  count_in out (Update x is op e) = refl
  count_in out (If c a) = ap (λ n. 1 + n) (count_in out a)
  count_in out (IfElse c a b) = ap (λ n. 1 + n + stmt_count (without_in out b)) (count_in out a) ∙ ap (λ n. 1 + stmt_count a + n) (count_in out b)
  count_in out (For x name start test step body) = ap (λ n. 1 + n) (count_in out body)
  count_in out (Block items) = ap (λ n. 1 + n) (count_among out items)
  count_in out (Print parts) = refl

  count_among : (out : ℕ → Bool) (items : Items) → statement_count (without_among out items) ≡ statement_count items
  count_among out no_items = refl
  count_among out (mark n rest) = line_counted (out n) n (without_among out rest) ∙ count_among out rest
  count_among out (local x name start rest) = count_among out rest
  count_among out (stmt s rest) = ap (λ n. n + statement_count (without_among out rest)) (count_in out s) ∙ ap (λ n. stmt_count s + n) (count_among out rest)

tree_kept : {ts : List Token} {whole : Kernel} (out : ℕ → Bool) → Reads ts whole → HasTokens (record { constants = whole.constants; variables = whole.variables; body = without_among out whole.body })
tree_kept {ts} {whole} out r =
    let items = items_kept out r.items in
    record {
      tokens = headers r.includes ++ (r.decls ++ Word (codes "void") ∷ Word (codes "kernel") ∷ Punctuator OpenParen ∷ Word (codes "void") ∷ Punctuator CloseParen ∷ Punctuator OpenBrace ∷ (items.tokens ++ Punctuator CloseBrace ∷ []));
      reads = record {
        includes = r.includes;
        scope = r.scope;
        next = r.next;
        decls = r.decls;
        body = items.tokens;
        all = refl;
        declared = r.declared;
        items = items.reads;
        statements = subst (λ n. n ≤ 4096) (sym (count_among out whole.body)) r.statements;
        within = r.within;
      };
    }

pub kept_lines_are_read : KeptLinesAreRead
kept_lines_are_read text tree t = subst HasTokens (sym t.is) (tree_kept t.left_out t.reads.reads)
