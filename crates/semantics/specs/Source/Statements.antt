-- The grammar of statements: a constructor for each production.
use Rattle.std.specs.Prelude.{ℕ, suc, Bool, true, false, ◌≡◌, ◌<◌, ◌+◌, List, [], ◌∷◌, ◌++◌, Option, Some, None, codes}
use Rattle.semantics.specs.Tree.{Name, Variable, BinaryOp, Expr, Exprs, Cond, NotZero, Compare, Not, LogicalAnd, LogicalOr, Source, Number, Truth, Increment, Up, Down, Set, Change, PrintPart, Characters, Decimal, Stmt, Assign, Update, If, IfElse, For, Block, Print, Items, no_items, mark, local, stmt}
use Rattle.semantics.specs.Source.Token.{Token, Word, StringLiteral, Punctuator, Line, Symbol, Semicolon, Comma, OpenParen, CloseParen, OpenBrace, CloseBrace, PlusPlus, MinusMinus, EqualSign}
use Rattle.semantics.specs.Source.Typing.{typed, plain}
use Rattle.semantics.specs.Source.Scope.{Scope, AVariable, find, count, IsFree}
use Rattle.semantics.specs.Source.Expressions.{UpdateSign, ReadsExpr, ReadsSubscripts, ReadsCond}

-- a condition that is no arithmetic expression
abbrev pub is_truth : Cond → Bool
is_truth (NotZero e) = false
is_truth (Compare op a b) = true
is_truth (Not c) = true
is_truth (LogicalAnd c d) = true
is_truth (LogicalOr c d) = true

-- no `else` behind it would belong to an `if` in it (C11 6.8.4.1)
abbrev pub is_closed : Stmt → Bool
is_closed (Assign x is e) = true
is_closed (Update x is op e) = true
is_closed (If c a) = false
is_closed (IfElse c a b) = is_closed b
is_closed (For x name start test step body) = is_closed body
is_closed (Block items) = true
is_closed (Print parts) = true

abbrev mutual
  -- how many statements there are, a body's block too
  pub stmt_count : Stmt → ℕ
  stmt_count (Assign x is e) = 1
  stmt_count (Update x is op e) = 1
  stmt_count (If c a) = 1 + stmt_count a
  stmt_count (IfElse c a b) = 1 + stmt_count a + stmt_count b
  stmt_count (For x name start test step body) = 1 + stmt_count body
  stmt_count (Block items) = 1 + statement_count items
  stmt_count (Print parts) = 1

  -- those of a block's items; a declaration and a directive line are none
  pub statement_count : Items → ℕ
  statement_count no_items = 0
  statement_count (mark n items) = statement_count items
  statement_count (local x name e items) = statement_count items
  statement_count (stmt s items) = stmt_count s + statement_count items

-- the right side of an assignment, or a first value: a condition gives 1 or 0 (C11 6.5.16, 6.7.9)
pub data ReadsSource (scope : Scope) : ℕ → List Token → Source → Type 0 where
  number : {open' : ℕ} {e : Expr} {ts : List Token} → ReadsExpr scope open' 0 ts e → ReadsSource scope open' ts (Number e)
  truth : {open' : ℕ} {c : Cond} {ts : List Token} → is_truth c ≡ true → ReadsCond scope open' 0 ts c → ReadsSource scope open' ts (Truth c)

-- what is assigned: a variable, with as many subscripts as dimensions (C11 6.5.16)
pub data ReadsTarget (scope : Scope) : ℕ → List Token → Variable → Exprs → Type 0 where
  target : {open' : ℕ} {name : Name} {x : Variable} {is : Exprs} {ts : List Token} →
      find scope name ≡ Some (AVariable x (count is)) → ReadsSubscripts scope open' ts is → ReadsTarget scope open' (Word name ∷ ts) x is

-- what a loop does behind each turn (C11 6.5.2.4, 6.5.3.1, 6.5.16)
pub data ReadsIncrement (scope : Scope) : ℕ → List Token → Increment → Type 0 where
  up_before : {open' : ℕ} {name : Name} {x : Variable} → find scope name ≡ Some (AVariable x 0) → ReadsIncrement scope open' (Punctuator PlusPlus ∷ Word name ∷ []) (Up x)
  up_behind : {open' : ℕ} {name : Name} {x : Variable} → find scope name ≡ Some (AVariable x 0) → ReadsIncrement scope open' (Word name ∷ Punctuator PlusPlus ∷ []) (Up x)
  down_before : {open' : ℕ} {name : Name} {x : Variable} → find scope name ≡ Some (AVariable x 0) → ReadsIncrement scope open' (Punctuator MinusMinus ∷ Word name ∷ []) (Down x)
  down_behind : {open' : ℕ} {name : Name} {x : Variable} → find scope name ≡ Some (AVariable x 0) → ReadsIncrement scope open' (Word name ∷ Punctuator MinusMinus ∷ []) (Down x)
  set : {open' : ℕ} {name : Name} {x : Variable} {e : Source} {ts : List Token} →
      find scope name ≡ Some (AVariable x 0) → ReadsSource scope open' ts e → ReadsIncrement scope open' (Word name ∷ Punctuator EqualSign ∷ ts) (Set x e)
  change : {open' : ℕ} {name : Name} {x : Variable} {e : Expr} {ts : List Token} {sign : Symbol} {op : BinaryOp} →
      find scope name ≡ Some (AVariable x 0) → UpdateSign sign op → ReadsExpr scope open' 0 ts e → ReadsIncrement scope open' (Word name ∷ Punctuator sign ∷ ts) (Change x op e)

-- a format: characters, and places for numbers (C11 7.21.6.1, 7.8.1)
pub data ReadsFormat : List Token → List (Option (List ℕ)) → Type 0 where
  end : {bs : List ℕ} → ReadsFormat (StringLiteral bs false ∷ []) (Some bs ∷ [])
  last : {bs : List ℕ} → ReadsFormat (StringLiteral bs true ∷ Word (codes "PRIu64") ∷ []) (Some bs ∷ None ∷ [])
  place : {bs : List ℕ} {ts : List Token} {ps : List (Option (List ℕ))} →
      ReadsFormat ts ps → ReadsFormat (StringLiteral bs true ∷ Word (codes "PRIu64") ∷ ts) (Some bs ∷ None ∷ ps)

-- the arguments behind it, of type uint64_t
pub data ReadsArguments (scope : Scope) : ℕ → List Token → List Expr → Type 0 where
  no_arguments : {open' : ℕ} → ReadsArguments scope open' [] []
  argument : {open' : ℕ} {e : Expr} {es : List Expr} {ts us : List Token} →
      typed e ≡ true → plain e ≡ true → ReadsExpr scope open' 0 ts e → ReadsArguments scope open' us es →
      ReadsArguments scope open' (Punctuator Comma ∷ (ts ++ us)) (e ∷ es)

-- as many arguments as places
abbrev pub Fills : List (Option (List ℕ)) → List Expr → List PrintPart → Type 0
Fills [] [] [] = Unit {0}
Fills (Some bs ∷ ps) es (Characters cs ∷ qs) = (bs ≡ cs) × Fills ps es qs
Fills (None ∷ ps) (e ∷ es) (Decimal d ∷ qs) = (e ≡ d) × Fills ps es qs
Fills _ _ _ = ⊥

-- next: the number of the next variable; a statement gives the number behind it
mutual
  -- assignments, `if` (C11 6.8.4.1), `for` (6.8.5.3), blocks (6.8.2), printf (7.21.6.3); `if (` and `for (` open two, `else` one more than its `if`
  pub data ReadsStmt : Scope → ℕ → ℕ → List Token → Stmt → ℕ → Type 0 where
    assign : {scope : Scope} {open' next : ℕ} {x : Variable} {is : Exprs} {e : Source} {ts us : List Token} →
        ReadsTarget scope open' ts x is → ReadsSource scope open' us e →
        ReadsStmt scope open' next (ts ++ Punctuator EqualSign ∷ (us ++ Punctuator Semicolon ∷ [])) (Assign x is e) next
    update : {scope : Scope} {open' next : ℕ} {x : Variable} {is : Exprs} {e : Expr} {ts us : List Token} {sign : Symbol} {op : BinaryOp} →
        ReadsTarget scope open' ts x is → UpdateSign sign op → ReadsExpr scope open' 0 us e →
        ReadsStmt scope open' next (ts ++ Punctuator sign ∷ (us ++ Punctuator Semicolon ∷ [])) (Update x is op e) next
    if_only : {scope : Scope} {open' next next' : ℕ} {c : Cond} {a : Stmt} {ts us : List Token} →
        suc open' < 64 → ReadsCond scope (suc (suc open')) 0 ts c → ReadsStmt scope (suc open') next us a next' →
        ReadsStmt scope open' next (Word (codes "if") ∷ Punctuator OpenParen ∷ (ts ++ Punctuator CloseParen ∷ us)) (If c a) next'
    if_else : {scope : Scope} {open' next next' next'' : ℕ} {c : Cond} {a b : Stmt} {ts us vs : List Token} →
        suc open' < 64 → ReadsCond scope (suc (suc open')) 0 ts c → is_closed a ≡ true →
        ReadsStmt scope (suc open') next us a next' → ReadsStmt scope (suc (suc open')) next' vs b next'' →
        ReadsStmt scope open' next (Word (codes "if") ∷ Punctuator OpenParen ∷ (ts ++ Punctuator CloseParen ∷ (us ++ Word (codes "else") ∷ vs))) (IfElse c a b) next''
    for_loop : {scope : Scope} {open' next next' : ℕ} {name : Name} {start : Source} {test : Cond} {step : Increment} {body : Stmt} {ts us vs ws : List Token} →
        suc open' < 64 → IsFree scope name →
        ReadsSource ((name, AVariable next 0) ∷ scope) (suc (suc open')) ts start →
        ReadsCond ((name, AVariable next 0) ∷ scope) (suc (suc open')) 0 us test →
        ReadsIncrement ((name, AVariable next 0) ∷ scope) (suc (suc open')) vs step →
        ReadsStmt ((name, AVariable next 0) ∷ scope) (suc open') (suc next) ws body next' →
        ReadsStmt scope open' next
        (Word (codes "for") ∷ Punctuator OpenParen ∷ Word (codes "uint64_t") ∷ Word name ∷ Punctuator EqualSign ∷ (ts ++ Punctuator Semicolon ∷ (us ++ Punctuator Semicolon ∷ (vs ++ Punctuator CloseParen ∷ ws))))
        (For next name start test step body) next'
    block : {scope : Scope} {open' next next' : ℕ} {items : Items} {ts : List Token} →
        open' < 64 → ReadsItems scope (suc open') next ts items next' →
        ReadsStmt scope open' next (Punctuator OpenBrace ∷ (ts ++ Punctuator CloseBrace ∷ [])) (Block items) next'
    print : {scope : Scope} {open' next : ℕ} {spots : List (Option (List ℕ))} {es : List Expr} {parts : List PrintPart} {ts us : List Token} →
        open' < 64 → ReadsFormat ts spots → ReadsArguments scope (suc open') us es → Fills spots es parts →
        ReadsStmt scope open' next (Word (codes "printf") ∷ Punctuator OpenParen ∷ (ts ++ (us ++ Punctuator CloseParen ∷ Punctuator Semicolon ∷ []))) (Print parts) next

  -- a block's items: a local is visible from its name on (C11 6.2.1, 6.7)
  pub data ReadsItems : Scope → ℕ → ℕ → List Token → Items → ℕ → Type 0 where
    no_more : {scope : Scope} {open' next : ℕ} → ReadsItems scope open' next [] no_items next
    line : {scope : Scope} {open' next next' : ℕ} {n : ℕ} {items : Items} {ts : List Token} →
        ReadsItems scope open' next ts items next' → ReadsItems scope open' next (Line n ∷ ts) (mark n items) next'
    empty_local : {scope : Scope} {open' next next' : ℕ} {name : Name} {items : Items} {ts : List Token} →
        IsFree scope name → ReadsItems ((name, AVariable next 0) ∷ scope) open' (suc next) ts items next' →
        ReadsItems scope open' next (Word (codes "uint64_t") ∷ Word name ∷ Punctuator Semicolon ∷ ts) (local next name None items) next'
    first_local : {scope : Scope} {open' next next' : ℕ} {name : Name} {e : Source} {items : Items} {ts us : List Token} →
        IsFree scope name → ReadsSource ((name, AVariable next 0) ∷ scope) open' ts e →
        ReadsItems ((name, AVariable next 0) ∷ scope) open' (suc next) us items next' →
        ReadsItems scope open' next (Word (codes "uint64_t") ∷ Word name ∷ Punctuator EqualSign ∷ (ts ++ Punctuator Semicolon ∷ us)) (local next name (Some e) items) next'
    statement : {scope : Scope} {open' next next' next'' : ℕ} {s : Stmt} {items : Items} {ts us : List Token} →
        ReadsStmt scope open' next ts s next' → ReadsItems scope open' next' us items next'' →
        ReadsItems scope open' next (ts ++ us) (stmt s items) next''
