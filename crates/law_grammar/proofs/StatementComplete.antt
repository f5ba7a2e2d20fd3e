-- Whatever the grammar of statements has is read so.
use Rattle.std.specs.Prelude.{ℕ, zero, suc, Bool, true, false, ◌&&◌, ◌≡◌, ◌<◌, ◌≤◌, ◌+◌, List, [], ◌∷◌, ◌++◌, length, Option, Some, None, is_none, codes}
use Rattle.std.proofs.Common.{cond, refl, sym, ap, ◌∙◌, subst, arith}
use Rattle.std.proofs.lemmas.Bool.{eq-eqb}
use Rattle.std.proofs.lemmas.List.{append_assoc, length-append}
use Rattle.std.proofs.lemmas.Slice.Eq.{bytes_eq-Decides}
use Rattle.semantics.specs.Tree as Tree
use Rattle.semantics.specs.Tree.{Name, Variable, Expr, Exprs, Cond, Source, Number, Truth, BinaryOp, Increment, Up, Down, Set, Change, PrintPart, Characters, Decimal, Stmt, Assign, Update, If, IfElse, For, Block, Print, Items, no_items, mark, local, stmt}
use Rattle.semantics.specs.Source.Token.{Token, Word, StringLiteral, Punctuator, Line, Symbol, Semicolon, OpenParen, CloseParen, OpenBrace, CloseBrace, EqualSign}
use Rattle.semantics.specs.Source.Typing.{typed, plain}
use Rattle.semantics.specs.Source.Scope.{Scope, Entity, AVariable, find, count, is_reserved, same_name, IsFree}
use Rattle.semantics.specs.Source.Expressions.{UpdateSign, ReadsExpr, ReadsSubscripts, ReadsCond}
use Rattle.semantics.specs.Source.Expressions as grammar
use Rattle.semantics.specs.Source.Statements.{is_truth, is_closed, stmt_count, statement_count, ReadsSource, number, truth, ReadsTarget, target, ReadsIncrement, up_before, up_behind, down_before, down_behind, set, change, ReadsFormat, end, last, place, ReadsArguments, no_arguments, argument, Fills, ReadsStmt, assign, update, if_only, if_else, for_loop, block, print, ReadsItems, no_more, line, empty_local, first_local, statement}
use Rattle.cparse_grammar.specs.Reading.{Got, Reader, ◌>>=◌, got, chosen}
use Rattle.cparse_grammar.specs.Operators.{number_in, is_number, cond_in, update_of}
use Rattle.cparse_grammar.specs.NextTokens.{close_paren, may_be_named, word}
use Rattle.cparse_grammar.specs.ExpressionReader.{subscripts, inside, expression}
use Rattle.cparse_grammar.specs.NextTokens as ahead
use Rattle.cparse_grammar.specs.PrintfReader as printing
use Rattle.cparse_grammar.specs.StatementReader as reader
use Rattle.cparse_grammar.specs.StatementReader.{Tally, Told, StmtReader, target_of, may_set, may_step, step_behind, if_named, step, assigned, assignment, items, by_head}
use Rattle.cparse_grammar.specs.PrintfReader.{format, arguments, filled, fills}
use Rattle.cparse_grammar.proofs.Binds.{bind_to, both_true}
use Rattle.law_grammar.proofs.ExpressionComplete.{as_source, cond_as_source, right, stops, ends, expr_read, subs_read, cond_read}

-- a whole expression is read as this
abbrev pub ExprClaim : Scope → ℕ → List Token → Source → Type 0
ExprClaim scope room ts s = (rest : List Token) → stops rest ≡ true → expression room scope (ts ++ rest) ≡ Some (right s rest)

truth_source : (c : Cond) → is_truth c ≡ true → as_source c ≡ Truth c
truth_source (Tree.NotZero e) h = absurd (cc)
truth_source (Tree.Compare op a b) h = refl
truth_source (Tree.Not c) h = refl
truth_source (Tree.LogicalAnd c d) h = refl
truth_source (Tree.LogicalOr c d) h = refl

-- a right side
pub source_read : {scope : Scope} {o : ℕ} {ts : List Token} {s : Source} → ReadsSource scope o ts s → (room : ℕ) → room + o ≡ 64 → ExprClaim scope room ts s
source_read (number r) room h = expr_read r room h
source_read {scope} {ts = ts} (truth {c = c} t r) room h = subst (λ s. ExprClaim scope room ts s) (truth_source c t) (cond_read r room h)

-- what `op=` does
update_is : {sign : Symbol} {op : BinaryOp} → UpdateSign sign op → update_of sign ≡ Some op
update_is grammar.UpdateSign.plus = refl
update_is grammar.UpdateSign.minus = refl
update_is grammar.UpdateSign.times = refl
update_is grammar.and = refl
update_is grammar.or = refl
update_is grammar.xor = refl

step_change : (whole : Reader Source) (entity : Option Entity) (ts : List Token) {sign : Symbol} {op : BinaryOp} → UpdateSign sign op
    → step_behind whole entity sign ts ≡ (whole ts >>= λ e. got (Change (target_of entity) op (number_in e.tree)) (may_step entity && (e.sound && is_number e.tree)) e.rest)
step_change whole entity ts grammar.UpdateSign.plus = refl
step_change whole entity ts grammar.UpdateSign.minus = refl
step_change whole entity ts grammar.UpdateSign.times = refl
step_change whole entity ts grammar.and = refl
step_change whole entity ts grammar.or = refl
step_change whole entity ts grammar.xor = refl

assigned_update : (whole : Reader Source) (entity : Option Entity) (is : Exprs) (sound : Bool) (ts : List Token) {sign : Symbol} {op : BinaryOp} → UpdateSign sign op
    → assigned whole entity is sound sign ts ≡ (whole ts >>= λ e. got (Update (target_of entity) is op (number_in e.tree)) (sound && (may_set entity is && (e.sound && is_number e.tree))) e.rest)
assigned_update whole entity is sound ts grammar.UpdateSign.plus = refl
assigned_update whole entity is sound ts grammar.UpdateSign.minus = refl
assigned_update whole entity is sound ts grammar.UpdateSign.times = refl
assigned_update whole entity is sound ts grammar.and = refl
assigned_update whole entity is sound ts grammar.or = refl
assigned_update whole entity is sound ts grammar.xor = refl

-- a visible scalar's step
pub step_read : {scope : Scope} {o : ℕ} {ts : List Token} {i : Increment} → ReadsIncrement scope o ts i → (room : ℕ) → room + o ≡ 64 → (rest : List Token) → stops rest ≡ true
    → step (expression room scope) scope (ts ++ rest) ≡ Some (right i rest)
unfolding step
step_read {scope} (up_before {name = w} {x = x} f) room h rest k = ap (λ e. cond (may_be_named e w) (got (Up (target_of e)) (may_step e) rest) None) f
step_read {scope} (up_behind {name = w} {x = x} f) room h rest k = ap (λ e. cond (may_be_named e w) (got (Up (target_of e)) (may_step e) rest) None) f
step_read {scope} (down_before {name = w} {x = x} f) room h rest k = ap (λ e. cond (may_be_named e w) (got (Down (target_of e)) (may_step e) rest) None) f
step_read {scope} (down_behind {name = w} {x = x} f) room h rest k = ap (λ e. cond (may_be_named e w) (got (Down (target_of e)) (may_step e) rest) None) f
step_read {scope} (set {name = w} {x = x} {e = s} {ts = ts} f r) room h rest k =
    ap (λ e. cond (may_be_named e w) (expression room scope (ts ++ rest) >>= λ y. got (Set (target_of e) y.tree) (may_step e && y.sound) y.rest) None) f
    ∙ bind_to (λ y. got (Set x y.tree) (true && y.sound) y.rest) (source_read r room h rest k)
step_read {scope} (change {name = w} {x = x} {e = s} {ts = ts} {sign = sign} {op = op} f u r) room h rest k =
    ap (λ e. cond (may_be_named e w) (step_behind (expression room scope) e sign (ts ++ rest)) None) f
    ∙ step_change (expression room scope) (Some (AVariable x 0)) (ts ++ rest) u
    ∙ bind_to (λ y. got (Change x op (number_in y.tree)) (true && (y.sound && is_number y.tree)) y.rest) (expr_read r room h rest k)

-- no reserved word is visible
abbrev pub IsClean : Scope → Type 0
IsClean scope = (name : Name) (e : Entity) → find scope name ≡ Some e → is_reserved name ≡ false

pub same_is : (a b : Name) → same_name a b ≡ true → a ≡ b
same_is a b h = (bytes_eq-Decides a b).0 h

-- a name that may stand is none of the reserved words
pub other_word : (w v : Name) → is_reserved w ≡ false → is_reserved v ≡ true → same_name w v ≡ false
other_word w v h k = go (same_name w v) refl
  where
    go : (b : Bool) → same_name w v ≡ b → same_name w v ≡ false
    go false e = e
    go true e = absurd (let d : false ≡ true = sym h ∙ ap is_reserved (same_is w v e) ∙ k in cc)

-- one more name that is free
pub clean_more : (scope : Scope) (w : Name) (e : Entity) → is_reserved w ≡ false → IsClean scope → IsClean ((w, e) ∷ scope)
clean_more scope w e h k name f d = go (same_name w name) refl
  where
    go : (b : Bool) → same_name w name ≡ b → is_reserved name ≡ false
    go true y = ap is_reserved (sym (same_is w name y)) ∙ h
    go false y = k name f (ap (λ b. cond b (Some e) (find scope name)) (sym y) ∙ d)

-- `=` and the right side
assign_read : {scope : Scope} {o : ℕ} (name : Name) {x : Variable} {is : Exprs} {s : Source} {ts us : List Token} → find scope name ≡ Some (AVariable x (count is)) → ReadsSubscripts scope o ts is → ReadsSource scope o us s
    → (room : ℕ) → room + o ≡ 64 → (rest : List Token) → assignment room scope name (ts ++ Punctuator EqualSign ∷ (us ++ Punctuator Semicolon ∷ rest)) ≡ Some (right (Assign x is s) (Punctuator Semicolon ∷ rest))
unfolding assignment
assign_read {scope} w {x = x} {is = is} {s = s} {ts = ts} {us = us} f r q room h rest =
    ap (λ e. cond (may_be_named e w) (subscripts (length all) (inside room scope) all >>= λ y. ahead.sign y.rest >>= λ z. assigned (expression room scope) e y.tree y.sound z.0 z.1) None) f
    ∙ bind_to (λ y. ahead.sign y.rest >>= λ z. assigned (expression room scope) (Some (AVariable x (count is))) y.tree y.sound z.0 z.1)
    (subs_read r room h (length all) (let l = length-append ts (Punctuator EqualSign ∷ (us ++ Punctuator Semicolon ∷ rest)) in omega arith) (Punctuator EqualSign ∷ (us ++ Punctuator Semicolon ∷ rest)) refl)
    ∙ bind_to (λ y. got (Assign x is y.tree) (true && (may_set (Some (AVariable x (count is))) is && y.sound)) y.rest) (source_read q room h (Punctuator Semicolon ∷ rest) refl)
    ∙ ap (λ b. got (Assign x is s) (true && (b && true)) (Punctuator Semicolon ∷ rest)) (eq-eqb (count is) (count is) refl)
  where
    all : List Token
    all = ts ++ Punctuator EqualSign ∷ (us ++ Punctuator Semicolon ∷ rest)

-- `op=` and the right side
sign_ends : {sign : Symbol} {op : BinaryOp} → UpdateSign sign op → (rest : List Token) → ends 0 (Punctuator sign ∷ rest) ≡ true
sign_ends grammar.UpdateSign.plus rest = refl
sign_ends grammar.UpdateSign.minus rest = refl
sign_ends grammar.UpdateSign.times rest = refl
sign_ends grammar.and rest = refl
sign_ends grammar.or rest = refl
sign_ends grammar.xor rest = refl

update_read : {scope : Scope} {o : ℕ} (name : Name) {x : Variable} {is : Exprs} {e : Expr} {ts us : List Token} {sign : Symbol} {op : BinaryOp} → find scope name ≡ Some (AVariable x (count is)) → ReadsSubscripts scope o ts is → UpdateSign sign op
    → ReadsExpr scope o 0 us e → (room : ℕ) → room + o ≡ 64 → (rest : List Token) → assignment room scope name (ts ++ Punctuator sign ∷ (us ++ Punctuator Semicolon ∷ rest)) ≡ Some (right (Update x is op e) (Punctuator Semicolon ∷ rest))
unfolding assignment
update_read {scope} w {x = x} {is = is} {e = e} {ts = ts} {us = us} {sign = sign} {op = op} f r u q room h rest =
    ap (λ e. cond (may_be_named e w) (subscripts (length all) (inside room scope) all >>= λ y. ahead.sign y.rest >>= λ z. assigned (expression room scope) e y.tree y.sound z.0 z.1) None) f
    ∙ bind_to (λ y. ahead.sign y.rest >>= λ z. assigned (expression room scope) (Some (AVariable x (count is))) y.tree y.sound z.0 z.1)
    (subs_read r room h (length all) (let l = length-append ts (Punctuator sign ∷ (us ++ Punctuator Semicolon ∷ rest)) in omega arith) (Punctuator sign ∷ (us ++ Punctuator Semicolon ∷ rest)) (sign_ends u (us ++ Punctuator Semicolon ∷ rest)))
    ∙ assigned_update (expression room scope) (Some (AVariable x (count is))) is true (us ++ Punctuator Semicolon ∷ rest) u
    ∙ bind_to (λ y. got (Update x is op (number_in y.tree)) (true && (may_set (Some (AVariable x (count is))) is && (y.sound && is_number y.tree))) y.rest) (expr_read q room h (Punctuator Semicolon ∷ rest) refl)
    ∙ ap (λ b. got (Update x is op e) (true && (b && true)) (Punctuator Semicolon ∷ rest)) (eq-eqb (count is) (count is) refl)
  where
    all : List Token
    all = ts ++ Punctuator sign ∷ (us ++ Punctuator Semicolon ∷ rest)

-- no string comes next
abbrev pub no_quoted : List Token → Type 0
no_quoted ts = printing.starts_quoted ts ≡ false

format_more : (n : ℕ) (bs : List ℕ) (ts : List Token) (b : Bool) → printing.starts_quoted ts ≡ b → format (suc n) (StringLiteral bs true ∷ Word (codes "PRIu64") ∷ ts)
    ≡ cond b (format n ts >>= λ more. got (Some bs ∷ None ∷ more.tree) true more.rest) (got (Some bs ∷ None ∷ []) true ts)
format_more n bs ts b e = ap (λ b. cond b (format n ts >>= λ more. got (Some bs ∷ None ∷ more.tree) true more.rest) (got (Some bs ∷ None ∷ []) true ts)) e

-- a format begins with a string
format_begins : {ts : List Token} {ps : List (Option (List ℕ))} → ReadsFormat ts ps → (rest : List Token) → printing.starts_quoted (ts ++ rest) ≡ true
format_begins end rest = refl
format_begins last rest = refl
format_begins (place r) rest = refl

format_read : {ts : List Token} {ps : List (Option (List ℕ))} → ReadsFormat ts ps → (n : ℕ) → length ts ≤ n → (rest : List Token) → no_quoted rest → format n (ts ++ rest) ≡ Some (right ps rest)
format_read end zero h rest k = absurd (omega arith)
format_read end (suc n) h rest k = refl
format_read last zero h rest k = absurd (omega arith)
format_read (last {bs = bs}) (suc n) h rest k = format_more n bs rest false k
format_read (place r) zero h rest k = absurd (omega arith)
format_read (place {bs = bs} {ts = ts} {ps = ps} r) (suc n) h rest k =
    format_more n bs (ts ++ rest) true (format_begins r rest) ∙ bind_to (λ more. got (Some bs ∷ None ∷ more.tree) true more.rest) (format_read r n (omega arith) rest k)

-- arguments end in front of a parenthesis
arguments_read : {scope : Scope} {o : ℕ} {ts : List Token} {es : List Expr} → ReadsArguments scope o ts es → (room : ℕ) → room + o ≡ 64 → (n : ℕ) → length ts ≤ n → (rest : List Token)
    → arguments n (expression room scope) (ts ++ Punctuator CloseParen ∷ rest) ≡ Some (right es (Punctuator CloseParen ∷ rest))
arguments_read no_arguments room h zero k rest = refl
arguments_read no_arguments room h (suc n) k rest = refl
arguments_read (argument t p r q) room h zero k rest = absurd (omega arith)
arguments_read {scope} (argument {e = e} {es = es} {ts = ts} {us = us} t p r q) room h (suc n) k rest =
    ap (λ xs. expression room scope xs >>= on) (append_assoc ts us (Punctuator CloseParen ∷ rest))
    ∙ bind_to on (expr_read r room h (us ++ Punctuator CloseParen ∷ rest) (ends_here q))
    ∙ bind_to (λ es. got (e ∷ es.tree) ((true && true) && ((typed e && plain e) && es.sound)) es.rest)
    (arguments_read q room h n (let l = length-append ts us in omega arith) rest)
    ∙ ap (λ b. got (e ∷ es) (b && true) (Punctuator CloseParen ∷ rest)) (both_true t p)
  where
    on : Got Source → Option (Got (List Expr))
    on y = arguments n (expression room scope) y.rest >>= λ es. got (number_in y.tree ∷ es.tree) ((y.sound && is_number y.tree) && ((typed (number_in y.tree) && plain (number_in y.tree)) && es.sound)) es.rest

    ends_here : {o : ℕ} {us : List Token} {es : List Expr} → ReadsArguments scope o us es → stops (us ++ Punctuator CloseParen ∷ rest) ≡ true
    ends_here no_arguments = refl
    ends_here (argument t p r q) = refl

-- each place has its argument
fills_all : (ps : List (Option (List ℕ))) (es : List Expr) (parts : List PrintPart) → Fills ps es parts → (fills ps es ≡ true) × (filled ps es ≡ parts)
fills_all [] [] [] h = (refl, refl)
fills_all (Some bs ∷ ps) es (Characters cs ∷ qs) h = let r = fills_all ps es qs h.1 in (r.0, ap (λ x. Characters x ∷ filled ps es) h.0 ∙ ap (λ x. Characters cs ∷ x) r.1)
fills_all (None ∷ ps) (e ∷ es) (Decimal d ∷ qs) h = let r = fills_all ps es qs h.1 in (r.0, ap (λ x. Decimal x ∷ filled ps es) h.0 ∙ ap (λ x. Decimal d ∷ x) r.1)
fills_all _ _ _ h = absurd h

-- no string begins the arguments
arguments_begin : {scope : Scope} {o : ℕ} {ts : List Token} {es : List Expr} → ReadsArguments scope o ts es → (rest : List Token) → printing.starts_quoted (ts ++ Punctuator CloseParen ∷ rest) ≡ false
arguments_begin no_arguments rest = refl
arguments_begin (argument t p r q) rest = refl

print_read : (scope : Scope) (o : ℕ) (spots : List (Option (List ℕ))) (es : List Expr) (parts : List PrintPart) (ts us : List Token) → o < 64 → ReadsFormat ts spots → ReadsArguments scope (suc o) us es → Fills spots es parts
    → (room : ℕ) → room + o ≡ 64 → (rest : List Token) → printing.printed room scope (Punctuator OpenParen ∷ (ts ++ (us ++ Punctuator CloseParen ∷ rest))) ≡ Some (right (Print parts) rest)
unfolding printing.printed
print_read scope o spots es parts ts us b f a p zero h rest = absurd (omega arith)
print_read scope o spots es parts ts us b f a p (suc room) h rest =
    bind_to (λ spots. arguments (length spots.rest) (expression room scope) spots.rest >>= λ es. close_paren es.rest >>= λ behind. got (Print (filled spots.tree es.tree)) (es.sound && fills spots.tree es.tree) behind)
    (format_read f (length (ts ++ (us ++ Punctuator CloseParen ∷ rest))) (let l = length-append ts (us ++ Punctuator CloseParen ∷ rest) in omega arith) (us ++ Punctuator CloseParen ∷ rest) (arguments_begin a rest))
    ∙ bind_to (λ es. close_paren es.rest >>= λ behind. got (Print (filled spots es.tree)) (es.sound && fills spots es.tree) behind)
    (arguments_read a room (omega arith) (length (us ++ Punctuator CloseParen ∷ rest)) (let l = length-append us (Punctuator CloseParen ∷ rest) in omega arith) rest)
    ∙ ap (λ b. got (Print (filled spots es)) b rest) (fills_all spots es parts p).0
    ∙ ap (λ x. Some (right (Print x) rest)) (fills_all spots es parts p).1

-- a loop's heading
heading_read : (scope : Scope) (o next left : ℕ) (name : Name) (start : Source) (test : Cond) (turn : Increment) (ts us vs : List Token) → IsFree scope name
    → ReadsSource ((name, AVariable next 0) ∷ scope) o ts start → ReadsCond ((name, AVariable next 0) ∷ scope) o 0 us test → ReadsIncrement ((name, AVariable next 0) ∷ scope) o vs turn
    → (room : ℕ) → room + o ≡ 64 → (rest : List Token)
    → reader.heading room scope (record { next = next; left = left }) (Punctuator OpenParen ∷ Word (codes "uint64_t") ∷ Word name ∷ Punctuator EqualSign ∷ (ts ++ Punctuator Semicolon ∷ (us ++ Punctuator Semicolon ∷ (vs ++ Punctuator CloseParen ∷ rest))))
    ≡ Some (record { name = name; start = start; test = as_source test; step = turn; sound = true; rest = rest })
unfolding reader.heading
heading_read scope o next left name start test turn ts us vs free a b c room h rest =
    ap (λ x. named x >>= λ name. ahead.equal_sign name.1 >>= λ behind. from name.0 behind) free.word
    ∙ bind_to (λ start. ahead.semicolon start.rest >>= λ first. tested name start first) (source_read a room h (Punctuator Semicolon ∷ (us ++ Punctuator Semicolon ∷ (vs ++ Punctuator CloseParen ∷ rest))) refl)
    ∙ bind_to (λ test. ahead.semicolon test.rest >>= λ second. turned name (right start (Punctuator Semicolon ∷ (us ++ Punctuator Semicolon ∷ (vs ++ Punctuator CloseParen ∷ rest)))) test second) (cond_read b room h (Punctuator Semicolon ∷ (vs ++ Punctuator CloseParen ∷ rest)) refl)
    ∙ bind_to (λ turn. close_paren turn.rest >>= λ body. whole name (right start (Punctuator Semicolon ∷ (us ++ Punctuator Semicolon ∷ (vs ++ Punctuator CloseParen ∷ rest)))) (right (as_source test) (Punctuator Semicolon ∷ (vs ++ Punctuator CloseParen ∷ rest))) turn body)
    (step_read c room h (Punctuator CloseParen ∷ rest) refl)
    ∙ ap (λ x. Some (record { name = name; start = start; test = as_source test; step = turn; sound = x && true; rest = rest })) (ap is_none free.unused)
  where
    all : List Token
    all = ts ++ Punctuator Semicolon ∷ (us ++ Punctuator Semicolon ∷ (vs ++ Punctuator CloseParen ∷ rest))

    named : Bool → Option (Name × List Token)
    named x = cond x None (Some (name, Punctuator EqualSign ∷ all))

    within : Name → Scope
    within name = (name, AVariable next 0) ∷ scope

    whole : Name → Got Source → Got Source → Got Increment → List Token → Option reader.Heading
    whole name start test turn body = Some (record { name = name; start = start.tree; test = test.tree; step = turn.tree; sound = is_none (find scope name) && (start.sound && (test.sound && turn.sound)); rest = body })

    turned : Name → Got Source → Got Source → List Token → Option reader.Heading
    turned name start test second = step (expression room (within name)) (within name) second >>= λ turn. close_paren turn.rest >>= λ body. whole name start test turn body

    tested : Name → Got Source → List Token → Option reader.Heading
    tested name start first = expression room (within name) first >>= λ test. ahead.semicolon test.rest >>= λ second. turned name start test second

    from : Name → List Token → Option reader.Heading
    from name behind = expression room (within name) behind >>= λ start. ahead.semicolon start.rest >>= λ first. tested name start first

-- a tally
abbrev pub tally_of : ℕ → ℕ → Tally
tally_of next left = record { next = next; left = left }

-- what was read, with nothing wrong in it
abbrev pub well : {A : Type 0} → A → ℕ → ℕ → List Token → Told A
well s next left rest = record { tree = s; sound = true; tally = tally_of next left; rest = rest }

-- a statement is read as this, whatever follows but an `else` that would be its own
abbrev pub StmtClaim : Scope → ℕ → ℕ → List Token → Stmt → ℕ → Type 0
StmtClaim scope room next ts s next' =
    (left : ℕ) (rest : List Token) → (is_closed s ≡ false → word (codes "else") rest ≡ None)
    → reader.statement room scope (tally_of next (stmt_count s + left)) (ts ++ rest) ≡ Some (well s next' left rest)

-- a block's items, up to its end
abbrev pub ItemsClaim : Scope → ℕ → ℕ → List Token → Items → ℕ → Type 0
ItemsClaim scope room next ts s next' =
    (n left : ℕ) (rest : List Token) → length ts ≤ n
    → items n room (reader.statement room) scope (tally_of next (statement_count s + left)) (ts ++ Punctuator CloseBrace ∷ rest) ≡ Some (well s next' left (Punctuator CloseBrace ∷ rest))

-- what is nested once and twice
abbrev once : ℕ → StmtReader
once zero = reader.no_stmt
once (suc room) = reader.statement room

abbrev twice : ℕ → StmtReader
twice zero = reader.no_stmt
twice (suc zero) = reader.no_stmt
twice (suc (suc room)) = reader.statement room

by_room : (room : ℕ) (scope : Scope) (next left : ℕ) (ts : List Token) → reader.statement room scope (tally_of next (suc left)) ts ≡ by_head room (once room) (twice room) scope (tally_of next left) ts
by_room zero scope next left ts = refl
by_room (suc zero) scope next left ts = refl
by_room (suc (suc room)) scope next left ts = refl

-- a name is no word that begins another statement
assignment_head : (room : ℕ) (once twice : StmtReader) (scope : Scope) (tally : Tally) (w : Name) (ts : List Token) → is_reserved w ≡ false
    → by_head room once twice scope tally (Word w ∷ ts) ≡ (assignment room scope w ts >>= λ s. reader.ended tally s)
assignment_head room one two scope tally w ts h =
    ap (λ b. cond b (reader.selection room one two scope tally ts) (cond (same_name w (codes "for")) (reader.iteration room one scope tally ts) (cond (same_name w (codes "printf")) (printing.printed room scope ts >>= λ s. reader.ended tally s) (assignment room scope w ts >>= λ s. reader.ended tally s)))) (other_word w (codes "if") h refl)
    ∙ ap (λ b. cond b (reader.iteration room one scope tally ts) (cond (same_name w (codes "printf")) (printing.printed room scope ts >>= λ s. reader.ended tally s) (assignment room scope w ts >>= λ s. reader.ended tally s))) (other_word w (codes "for") h refl)
    ∙ ap (λ b. cond b (printing.printed room scope ts >>= λ s. reader.ended tally s) (assignment room scope w ts >>= λ s. reader.ended tally s)) (other_word w (codes "printf") h refl)

-- the same tally
recount : (room : ℕ) (scope : Scope) (next m n : ℕ) (ts : List Token) → m ≡ n → reader.statement room scope (tally_of next m) ts ≡ reader.statement room scope (tally_of next n) ts
recount room scope next m n ts e = ap (λ x. reader.statement room scope (tally_of next x) ts) e

-- two parts with a token between them and one behind
regroup : (ts us rest : List Token) (t v : Token) → (ts ++ t ∷ (us ++ v ∷ [])) ++ rest ≡ ts ++ t ∷ (us ++ v ∷ rest)
regroup ts us rest t v = append_assoc ts (t ∷ (us ++ v ∷ [])) rest ∙ ap (λ xs. ts ++ t ∷ xs) (append_assoc us (v ∷ []) rest)

assign_claim : {scope : Scope} {o next : ℕ} {x : Variable} {is : Exprs} {e : Source} {ts us : List Token} → ReadsTarget scope o ts x is → ReadsSource scope o us e → IsClean scope
    → (room : ℕ) → room + o ≡ 64 → StmtClaim scope room next (ts ++ Punctuator EqualSign ∷ (us ++ Punctuator Semicolon ∷ [])) (Assign x is e) next
assign_claim {scope} {next = next} {us = us} (target {name = w} {x = x} {is = is} {ts = ts} f r) q k room h left rest d =
    recount room scope next (1 + left) (suc left) _ (omega arith)
    ∙ by_room room scope next left _
    ∙ assignment_head room (once room) (twice room) scope (tally_of next left) w ((ts ++ Punctuator EqualSign ∷ (us ++ Punctuator Semicolon ∷ [])) ++ rest) (k w (AVariable x (count is)) f)
    ∙ bind_to (reader.ended (tally_of next left)) (ap (assignment room scope w) (regroup ts us rest (Punctuator EqualSign) (Punctuator Semicolon)) ∙ assign_read w f r q room h rest)

update_claim : {scope : Scope} {o next : ℕ} {x : Variable} {is : Exprs} {e : Expr} {ts us : List Token} {sign : Symbol} {op : BinaryOp} → ReadsTarget scope o ts x is → UpdateSign sign op → ReadsExpr scope o 0 us e → IsClean scope
    → (room : ℕ) → room + o ≡ 64 → StmtClaim scope room next (ts ++ Punctuator sign ∷ (us ++ Punctuator Semicolon ∷ [])) (Update x is op e) next
update_claim {scope} {next = next} {us = us} {sign = sign} (target {name = w} {x = x} {is = is} {ts = ts} f r) u q k room h left rest d =
    recount room scope next (1 + left) (suc left) _ (omega arith)
    ∙ by_room room scope next left _
    ∙ assignment_head room (once room) (twice room) scope (tally_of next left) w ((ts ++ Punctuator sign ∷ (us ++ Punctuator Semicolon ∷ [])) ++ rest) (k w (AVariable x (count is)) f)
    ∙ bind_to (reader.ended (tally_of next left)) (ap (assignment room scope w) (regroup ts us rest (Punctuator sign) (Punctuator Semicolon)) ∙ update_read w f r u q room h rest)

-- behind the word if
selected : (room : ℕ) (read read_else : StmtReader) (scope : Scope) (tally : Tally) (inner rest : List Token) (c : Cond) (a : Told Stmt) → expression room scope inner ≡ Some (right (as_source c) (Punctuator CloseParen ∷ rest)) → read scope tally rest ≡ Some a
    → reader.selection (suc (suc room)) read read_else scope tally (Punctuator OpenParen ∷ inner)
    ≡ chosen (word (codes "else") a.rest) (reader.told (If (cond_in (as_source c)) a.tree) (true && a.sound) a.tally a.rest)
    (λ other. read_else scope a.tally other >>= λ b. reader.told (IfElse (cond_in (as_source c)) a.tree b.tree) (true && (a.sound && b.sound)) b.tally b.rest)
unfolding reader.selection
selected room read read_else scope tally inner rest c a e f =
    bind_to (λ c. close_paren c.rest >>= λ behind. read scope tally behind >>= λ a.
    chosen (word (codes "else") a.rest) (reader.told (If (cond_in c.tree) a.tree) (c.sound && a.sound) a.tally a.rest)
    (λ other. read_else scope a.tally other >>= λ b. reader.told (IfElse (cond_in c.tree) a.tree b.tree) (c.sound && (a.sound && b.sound)) b.tally b.rest)) e
    ∙ bind_to (λ a. chosen (word (codes "else") a.rest) (reader.told (If (cond_in (as_source c)) a.tree) (true && a.sound) a.tally a.rest)
    (λ other. read_else scope a.tally other >>= λ b. reader.told (IfElse (cond_in (as_source c)) a.tree b.tree) (true && (a.sound && b.sound)) b.tally b.rest)) f

if_claim : (scope : Scope) (o next next' : ℕ) (c : Cond) (a : Stmt) (ts us : List Token) → suc o < 64 → ReadsCond scope (suc (suc o)) 0 ts c → ((room : ℕ) → room + suc o ≡ 64 → StmtClaim scope room next us a next')
    → (room : ℕ) → room + o ≡ 64 → StmtClaim scope room next (Word (codes "if") ∷ Punctuator OpenParen ∷ (ts ++ Punctuator CloseParen ∷ us)) (If c a) next'
if_claim scope o next next' c a ts us b r f zero h left rest d = absurd (omega arith)
if_claim scope o next next' c a ts us b r f (suc zero) h left rest d = absurd (omega arith)
if_claim scope o next next' c a ts us b r f (suc (suc room)) h left rest d =
    recount (suc (suc room)) scope next ((1 + stmt_count a) + left) (suc (stmt_count a + left)) (Word (codes "if") ∷ Punctuator OpenParen ∷ ((ts ++ Punctuator CloseParen ∷ us) ++ rest)) (omega arith)
    ∙ selected room (reader.statement (suc room)) (reader.statement room) scope (tally_of next (stmt_count a + left)) ((ts ++ Punctuator CloseParen ∷ us) ++ rest) (us ++ rest) c (well a next' left rest)
    (ap (expression room scope) (append_assoc ts (Punctuator CloseParen ∷ us) rest) ∙ cond_read r room (omega arith) (Punctuator CloseParen ∷ (us ++ rest)) refl)
    (f (suc room) (omega arith) left rest (λ x. d refl))
    ∙ ap (λ o. chosen o (Some (well (If (cond_in (as_source c)) a) next' left rest)) (λ other. reader.statement room scope (tally_of next' left) other >>= λ b. reader.told (IfElse (cond_in (as_source c)) a b.tree) (true && (true && b.sound)) b.tally b.rest)) (d refl)
    ∙ ap (λ x. Some (well (If x a) next' left rest)) (cond_as_source c)

else_claim : (scope : Scope) (o next next' next'' : ℕ) (c : Cond) (a b : Stmt) (ts us vs : List Token) → suc o < 64 → ReadsCond scope (suc (suc o)) 0 ts c → is_closed a ≡ true
    → ((room : ℕ) → room + suc o ≡ 64 → StmtClaim scope room next us a next') → ((room : ℕ) → room + suc (suc o) ≡ 64 → StmtClaim scope room next' vs b next'')
    → (room : ℕ) → room + o ≡ 64 → StmtClaim scope room next (Word (codes "if") ∷ Punctuator OpenParen ∷ (ts ++ Punctuator CloseParen ∷ (us ++ Word (codes "else") ∷ vs))) (IfElse c a b) next''
else_claim scope o next next' next'' c a b ts us vs k r closed f g zero h left rest d = absurd (omega arith)
else_claim scope o next next' next'' c a b ts us vs k r closed f g (suc zero) h left rest d = absurd (omega arith)
else_claim scope o next next' next'' c a b ts us vs k r closed f g (suc (suc room)) h left rest d =
    recount (suc (suc room)) scope next (((1 + stmt_count a) + stmt_count b) + left) (suc (stmt_count a + (stmt_count b + left)))
    (Word (codes "if") ∷ Punctuator OpenParen ∷ ((ts ++ Punctuator CloseParen ∷ (us ++ Word (codes "else") ∷ vs)) ++ rest)) (omega arith)
    ∙ selected room (reader.statement (suc room)) (reader.statement room) scope (tally_of next (stmt_count a + (stmt_count b + left))) ((ts ++ Punctuator CloseParen ∷ (us ++ Word (codes "else") ∷ vs)) ++ rest) (us ++ Word (codes "else") ∷ (vs ++ rest)) c (well a next' (stmt_count b + left) (Word (codes "else") ∷ (vs ++ rest)))
    (ap (expression room scope) (append_assoc ts (Punctuator CloseParen ∷ (us ++ Word (codes "else") ∷ vs)) rest ∙ ap (λ xs. ts ++ Punctuator CloseParen ∷ xs) (append_assoc us (Word (codes "else") ∷ vs) rest))
    ∙ cond_read r room (omega arith) (Punctuator CloseParen ∷ (us ++ Word (codes "else") ∷ (vs ++ rest))) refl)
    (f (suc room) (omega arith) (stmt_count b + left) (Word (codes "else") ∷ (vs ++ rest)) (λ x. absurd (let y : false ≡ true = sym x ∙ closed in cc)))
    ∙ bind_to (λ b. reader.told (IfElse (cond_in (as_source c)) a b.tree) (true && (true && b.sound)) b.tally b.rest) (g room (omega arith) left rest d)
    ∙ ap (λ x. Some (well (IfElse x a b) next'' left rest)) (cond_as_source c)

-- behind the word for
iterated : (room : ℕ) (read : StmtReader) (scope : Scope) (tally : Tally) (ts : List Token) (h : reader.Heading) (s : Told Stmt) → reader.heading room scope tally ts ≡ Some h → read (reader.with_local scope h.name tally) (reader.declared tally) h.rest ≡ Some s
    → reader.iteration (suc (suc room)) read scope tally ts ≡ reader.told (For tally.next h.name h.start (cond_in h.test) h.step s.tree) (h.sound && s.sound) s.tally s.rest
unfolding reader.iteration
iterated room read scope tally ts h s e f =
    bind_to (λ h. read (reader.with_local scope h.name tally) (reader.declared tally) h.rest >>= λ s. reader.told (For tally.next h.name h.start (cond_in h.test) h.step s.tree) (h.sound && s.sound) s.tally s.rest) e
    ∙ bind_to (λ s. reader.told (For tally.next h.name h.start (cond_in h.test) h.step s.tree) (h.sound && s.sound) s.tally s.rest) f

for_claim : (scope : Scope) (o next next' : ℕ) (name : Name) (start : Source) (test : Cond) (turn : Increment) (body : Stmt) (ts us vs ws : List Token) → suc o < 64 → IsFree scope name
    → ReadsSource ((name, AVariable next 0) ∷ scope) (suc (suc o)) ts start → ReadsCond ((name, AVariable next 0) ∷ scope) (suc (suc o)) 0 us test → ReadsIncrement ((name, AVariable next 0) ∷ scope) (suc (suc o)) vs turn
    → ((room : ℕ) → room + suc o ≡ 64 → StmtClaim ((name, AVariable next 0) ∷ scope) room (suc next) ws body next')
    → (room : ℕ) → room + o ≡ 64
    → StmtClaim scope room next (Word (codes "for") ∷ Punctuator OpenParen ∷ Word (codes "uint64_t") ∷ Word name ∷ Punctuator EqualSign ∷ (ts ++ Punctuator Semicolon ∷ (us ++ Punctuator Semicolon ∷ (vs ++ Punctuator CloseParen ∷ ws)))) (For next name start test turn body) next'
for_claim scope o next next' name start test turn body ts us vs ws b free p q r f zero h left rest d = absurd (omega arith)
for_claim scope o next next' name start test turn body ts us vs ws b free p q r f (suc zero) h left rest d = absurd (omega arith)
for_claim scope o next next' name start test turn body ts us vs ws b free p q r f (suc (suc room)) h left rest d =
    recount (suc (suc room)) scope next ((1 + stmt_count body) + left) (suc (stmt_count body + left)) (Word (codes "for") ∷ (heading_tokens ++ rest)) (omega arith)
    ∙ iterated room (reader.statement (suc room)) scope (tally_of next (stmt_count body + left)) (heading_tokens ++ rest) head (well body next' left rest)
    (ap (reader.heading room scope (tally_of next (stmt_count body + left))) apart ∙ heading_read scope (suc (suc o)) next (stmt_count body + left) name start test turn ts us vs free p q r room (omega arith) (ws ++ rest))
    (f (suc room) (omega arith) left rest d)
    ∙ ap (λ x. Some (well (For next name start x turn body) next' left rest)) (cond_as_source test)
  where
    heading_tokens : List Token
    heading_tokens = Punctuator OpenParen ∷ Word (codes "uint64_t") ∷ Word name ∷ Punctuator EqualSign ∷ (ts ++ Punctuator Semicolon ∷ (us ++ Punctuator Semicolon ∷ (vs ++ Punctuator CloseParen ∷ ws)))

    head : reader.Heading
    head = record { name = name; start = start; test = as_source test; step = turn; sound = true; rest = ws ++ rest }

    apart : heading_tokens ++ rest ≡ Punctuator OpenParen ∷ Word (codes "uint64_t") ∷ Word name ∷ Punctuator EqualSign ∷ (ts ++ Punctuator Semicolon ∷ (us ++ Punctuator Semicolon ∷ (vs ++ Punctuator CloseParen ∷ (ws ++ rest))))
    apart =
        ap (λ xs. Punctuator OpenParen ∷ Word (codes "uint64_t") ∷ Word name ∷ Punctuator EqualSign ∷ xs)
        (append_assoc ts (Punctuator Semicolon ∷ (us ++ Punctuator Semicolon ∷ (vs ++ Punctuator CloseParen ∷ ws))) rest
        ∙ ap (λ xs. ts ++ Punctuator Semicolon ∷ xs) (append_assoc us (Punctuator Semicolon ∷ (vs ++ Punctuator CloseParen ∷ ws)) rest ∙ ap (λ xs. us ++ Punctuator Semicolon ∷ xs) (append_assoc vs (Punctuator CloseParen ∷ ws) rest)))

-- behind `{`
blocked : (room : ℕ) (read : StmtReader) (scope : Scope) (tally : Tally) (ts rest : List Token) (is : Items) (after : Tally)
    → items (length ts) room read scope tally ts ≡ Some (record { tree = is; sound = true; tally = after; rest = Punctuator CloseBrace ∷ rest })
    → reader.block (suc room) read scope tally ts ≡ Some (record { tree = Block is; sound = true; tally = after; rest = rest })
unfolding reader.block
blocked room read scope tally ts rest is after e = bind_to (λ is. ahead.close_brace is.rest >>= λ behind. reader.told (Block is.tree) is.sound is.tally behind) e

block_claim : (scope : Scope) (o next next' : ℕ) (is : Items) (ts : List Token) → o < 64 → ((room : ℕ) → room + suc o ≡ 64 → ItemsClaim scope room next ts is next')
    → (room : ℕ) → room + o ≡ 64 → StmtClaim scope room next (Punctuator OpenBrace ∷ (ts ++ Punctuator CloseBrace ∷ [])) (Block is) next'
block_claim scope o next next' is ts b f zero h left rest d = absurd (omega arith)
block_claim scope o next next' is ts b f (suc room) h left rest d =
    recount (suc room) scope next ((1 + statement_count is) + left) (suc (statement_count is + left)) (Punctuator OpenBrace ∷ ((ts ++ Punctuator CloseBrace ∷ []) ++ rest)) (omega arith)
    ∙ by_room (suc room) scope next (statement_count is + left) (Punctuator OpenBrace ∷ ((ts ++ Punctuator CloseBrace ∷ []) ++ rest))
    ∙ ap (reader.block (suc room) (reader.statement room) scope (tally_of next (statement_count is + left))) (append_assoc ts (Punctuator CloseBrace ∷ []) rest)
    ∙ blocked room (reader.statement room) scope (tally_of next (statement_count is + left)) (ts ++ Punctuator CloseBrace ∷ rest) rest is (tally_of next' left)
    (f room (omega arith) (length (ts ++ Punctuator CloseBrace ∷ rest)) left rest (let l = length-append ts (Punctuator CloseBrace ∷ rest) in omega arith))

print_claim : (scope : Scope) (o next : ℕ) (spots : List (Option (List ℕ))) (es : List Expr) (parts : List PrintPart) (ts us : List Token) → o < 64 → ReadsFormat ts spots → ReadsArguments scope (suc o) us es → Fills spots es parts
    → (room : ℕ) → room + o ≡ 64 → StmtClaim scope room next (Word (codes "printf") ∷ Punctuator OpenParen ∷ (ts ++ (us ++ Punctuator CloseParen ∷ Punctuator Semicolon ∷ []))) (Print parts) next
print_claim scope o next spots es parts ts us b f a p room h left rest d =
    recount room scope next (1 + left) (suc left) (Word (codes "printf") ∷ Punctuator OpenParen ∷ ((ts ++ (us ++ Punctuator CloseParen ∷ Punctuator Semicolon ∷ [])) ++ rest)) (omega arith)
    ∙ by_room room scope next left (Word (codes "printf") ∷ Punctuator OpenParen ∷ ((ts ++ (us ++ Punctuator CloseParen ∷ Punctuator Semicolon ∷ [])) ++ rest))
    ∙ bind_to (reader.ended (tally_of next left))
    (ap (λ xs. printing.printed room scope (Punctuator OpenParen ∷ xs)) (append_assoc ts (us ++ Punctuator CloseParen ∷ Punctuator Semicolon ∷ []) rest ∙ ap (λ xs. ts ++ xs) (append_assoc us (Punctuator CloseParen ∷ Punctuator Semicolon ∷ []) rest))
    ∙ print_read scope o spots es parts ts us b f a p room h (Punctuator Semicolon ∷ rest))

-- a token that a statement may begin with
abbrev IsBegin : Token → Type 0
IsBegin (Punctuator OpenBrace) = Unit {0}
IsBegin (Word w) = (same_name w (codes "uint64_t") ≡ false) × (same_name w (codes "else") ≡ false)
IsBegin _ = ⊥

-- a statement has a first token
record Begins (ts : List Token) : Type 0 where
  first : Token
  others : List Token
  are : ts ≡ first ∷ others
  begin : IsBegin first

name_begins : (scope : Scope) (w : Name) (e : Entity) (ts : List Token) → find scope w ≡ Some e → IsClean scope → Begins (Word w ∷ ts)
name_begins scope w e ts f k = record { first = Word w; others = ts; are = refl; begin = (other_word w (codes "uint64_t") (k w e f) refl, other_word w (codes "else") (k w e f) refl) }

stmt_begins : {scope : Scope} {o next next' : ℕ} {ts : List Token} {s : Stmt} → ReadsStmt scope o next ts s next' → IsClean scope → Begins ts
stmt_begins {scope} (assign {us = us} (target {name = w} {x = x} {is = is} {ts = ts} f r) q) k = name_begins scope w (AVariable x (count is)) (ts ++ Punctuator EqualSign ∷ (us ++ Punctuator Semicolon ∷ [])) f k
stmt_begins {scope} (update {us = us} {sign = sign} (target {name = w} {x = x} {is = is} {ts = ts} f r) u q) k = name_begins scope w (AVariable x (count is)) (ts ++ Punctuator sign ∷ (us ++ Punctuator Semicolon ∷ [])) f k
stmt_begins (if_only {ts = ts} {us = us} b c r) k = record { first = Word (codes "if"); others = Punctuator OpenParen ∷ (ts ++ Punctuator CloseParen ∷ us); are = refl; begin = (refl, refl) }
stmt_begins (if_else {ts = ts} {us = us} {vs = vs} b c d r q) k = record { first = Word (codes "if"); others = Punctuator OpenParen ∷ (ts ++ Punctuator CloseParen ∷ (us ++ Word (codes "else") ∷ vs)); are = refl; begin = (refl, refl) }
stmt_begins (for_loop {name = w} {ts = ts} {us = us} {vs = vs} {ws = ws} b f s t i r) k =
    record { first = Word (codes "for"); others = Punctuator OpenParen ∷ Word (codes "uint64_t") ∷ Word w ∷ Punctuator EqualSign ∷ (ts ++ Punctuator Semicolon ∷ (us ++ Punctuator Semicolon ∷ (vs ++ Punctuator CloseParen ∷ ws))); are = refl; begin = (refl, refl) }
stmt_begins (block {ts = ts} b r) k = record { first = Punctuator OpenBrace; others = ts ++ Punctuator CloseBrace ∷ []; are = refl; begin = tt }
stmt_begins (print {ts = ts} {us = us} b f a p) k = record { first = Word (codes "printf"); others = Punctuator OpenParen ∷ (ts ++ (us ++ Punctuator CloseParen ∷ Punctuator Semicolon ∷ [])); are = refl; begin = (refl, refl) }

begin_no_else : (t : Token) (ts : List Token) → IsBegin t → word (codes "else") (t ∷ ts) ≡ None
begin_no_else (Punctuator OpenBrace) ts b = refl
begin_no_else (Word w) ts b = ap (λ x. cond x (Some ts) None) b.1
begin_no_else _ ts b = absurd b

-- no block's item begins with `else`
items_no_else : {scope : Scope} {o next next' : ℕ} {ts : List Token} {is : Items} → ReadsItems scope o next ts is next' → IsClean scope → (rest : List Token) → word (codes "else") (ts ++ Punctuator CloseBrace ∷ rest) ≡ None
items_no_else no_more k rest = refl
items_no_else (line r) k rest = refl
items_no_else (empty_local f r) k rest = refl
items_no_else (first_local f e r) k rest = refl
items_no_else (statement {ts = ts} {us = us} r q) k rest =
    let b = stmt_begins r k in
    ap (λ xs. word (codes "else") ((xs ++ us) ++ Punctuator CloseBrace ∷ rest)) b.are ∙ begin_no_else b.first ((b.others ++ us) ++ Punctuator CloseBrace ∷ rest) b.begin

items_stmt : (n room : ℕ) (read : StmtReader) (scope : Scope) (tally : Tally) (t : Token) (ts : List Token) → IsBegin t
    → items (suc n) room read scope tally (t ∷ ts) ≡ (read scope tally (t ∷ ts) >>= λ s. items n room read scope s.tally s.rest >>= λ more. reader.with_stmt s more)
items_stmt n room read scope tally (Punctuator OpenBrace) ts b = refl
items_stmt n room read scope tally (Word w) ts b =
    ap (λ x. cond x (ahead.new_name ts >>= λ name. reader.initial (expression room (reader.with_local scope name.0 tally)) name.1 >>= λ start.
    items n room read (reader.with_local scope name.0 tally) (reader.declared tally) start.rest >>= λ more.
    reader.told (local tally.next name.0 start.tree more.tree) (is_none (find scope name.0) && (start.sound && more.sound)) more.tally more.rest)
    (read scope tally (Word w ∷ ts) >>= λ s. items n room read scope s.tally s.rest >>= λ more. reader.with_stmt s more)) b.0
items_stmt n room read scope tally _ ts b = absurd b

-- where no item comes
items_end : (scope : Scope) (room next : ℕ) → ItemsClaim scope room next [] no_items next
items_end scope room next zero left rest h = ap (λ n. Some (well no_items next n (Punctuator CloseBrace ∷ rest))) (omega arith)
items_end scope room next (suc n) left rest h = ap (λ n. Some (well no_items next n (Punctuator CloseBrace ∷ rest))) (omega arith)

line_claim : (scope : Scope) (room next next' at : ℕ) (ts : List Token) (is : Items) → ItemsClaim scope room next ts is next' → ItemsClaim scope room next (Line at ∷ ts) (mark at is) next'
line_claim scope room next next' at ts is c zero left rest h = absurd (omega arith)
line_claim scope room next next' at ts is c (suc n) left rest h = bind_to (λ more. reader.told (mark at more.tree) more.sound more.tally more.rest) (c n left rest (omega arith))

stmt_claim : (scope : Scope) (room next next' next'' : ℕ) (ts us : List Token) (s : Stmt) (is : Items) → Begins ts → ((rest : List Token) → word (codes "else") (us ++ Punctuator CloseBrace ∷ rest) ≡ None)
    → StmtClaim scope room next ts s next' → ItemsClaim scope room next' us is next'' → ItemsClaim scope room next (ts ++ us) (stmt s is) next''
stmt_claim scope room next next' next'' ts us s is b no_else c d zero left rest h = absurd (let l = length-append ts us in let f : length ts ≡ suc (length b.others) = ap length b.are in omega arith)
stmt_claim scope room next next' next'' ts us s is b no_else c d (suc n) left rest h =
    ap (λ xs. items (suc n) room read scope all xs) (append_assoc ts us (Punctuator CloseBrace ∷ rest) ∙ ap (λ xs. xs ++ behind) b.are)
    ∙ items_stmt n room read scope all b.first (b.others ++ behind) b.begin
    ∙ bind_to (λ s. items n room read scope s.tally s.rest >>= λ more. reader.with_stmt s more)
    (ap (λ xs. read scope all (xs ++ behind)) (sym b.are)
    ∙ ap (λ m. read scope (tally_of next m) (ts ++ behind)) counts
    ∙ c (statement_count is + left) behind (λ x. no_else rest))
    ∙ bind_to (λ more. reader.with_stmt (well s next' (statement_count is + left) behind) more)
    (d n left rest (let l = length-append ts us in let f : length ts ≡ suc (length b.others) = ap length b.are in omega arith))
  where
    read : StmtReader
    read = reader.statement room

    behind : List Token
    behind = us ++ Punctuator CloseBrace ∷ rest

    all : Tally
    all = tally_of next ((stmt_count s + statement_count is) + left)

    counts : (stmt_count s + statement_count is) + left ≡ stmt_count s + (statement_count is + left)
    counts = omega arith

-- a local, with or without a first value
local_claim : (scope : Scope) (room next next' : ℕ) (name : Name) (start : Option Source) (ts us : List Token) (is : Items) → IsFree scope name
    → ((rest : List Token) → reader.initial (expression room ((name, AVariable next 0) ∷ scope)) (ts ++ rest) ≡ Some (right start rest))
    → ItemsClaim ((name, AVariable next 0) ∷ scope) room (suc next) us is next' → ItemsClaim scope room next (Word (codes "uint64_t") ∷ Word name ∷ (ts ++ us)) (local next name start is) next'
local_claim scope room next next' name start ts us is free c d zero left rest h = absurd (omega arith)
local_claim scope room next next' name start ts us is free c d (suc n) left rest h =
    ap (λ x. named x >>= λ name. reader.initial (expression room (reader.with_local scope name.0 tally)) name.1 >>= λ start.
    items n room (reader.statement room) (reader.with_local scope name.0 tally) (reader.declared tally) start.rest >>= λ more. whole name.0 start more) free.word
    ∙ bind_to (λ start. items n room (reader.statement room) (reader.with_local scope name tally) (reader.declared tally) start.rest >>= λ more. whole name start more)
    (ap (reader.initial (expression room ((name, AVariable next 0) ∷ scope))) (append_assoc ts us (Punctuator CloseBrace ∷ rest)) ∙ c (us ++ Punctuator CloseBrace ∷ rest))
    ∙ bind_to (λ more. whole name (right start (us ++ Punctuator CloseBrace ∷ rest)) more) (d n left rest (let l = length-append ts us in omega arith))
    ∙ ap (λ x. Some (record { tree = local next name start is; sound = x && true; tally = tally_of next' left; rest = Punctuator CloseBrace ∷ rest })) (ap is_none free.unused)
  where
    tally : Tally
    tally = tally_of next (statement_count is + left)

    named : Bool → Option (Name × List Token)
    named x = cond x None (Some (name, (ts ++ us) ++ Punctuator CloseBrace ∷ rest))

    whole : Name → Got (Option Source) → Told Items → Option (Told Items)
    whole name start more = reader.told (local next name start.tree more.tree) (is_none (find scope name) && (start.sound && more.sound)) more.tally more.rest

-- a local with a first value
first_claim : (scope : Scope) (room next next' : ℕ) (name : Name) (e : Source) (ts us : List Token) (is : Items) → IsFree scope name → ExprClaim ((name, AVariable next 0) ∷ scope) room ts e
    → ItemsClaim ((name, AVariable next 0) ∷ scope) room (suc next) us is next' → ItemsClaim scope room next (Word (codes "uint64_t") ∷ Word name ∷ Punctuator EqualSign ∷ (ts ++ Punctuator Semicolon ∷ us)) (local next name (Some e) is) next'
first_claim scope room next next' name e ts us is free c d =
    subst (λ xs. ItemsClaim scope room next (Word (codes "uint64_t") ∷ Word name ∷ Punctuator EqualSign ∷ xs) (local next name (Some e) is) next') (append_assoc ts (Punctuator Semicolon ∷ []) us)
    (local_claim scope room next next' name (Some e) (Punctuator EqualSign ∷ (ts ++ Punctuator Semicolon ∷ [])) us is free
    (λ rest. bind_to (λ e. ahead.semicolon e.rest >>= λ behind. got (Some e.tree) e.sound behind) (ap (expression room ((name, AVariable next 0) ∷ scope)) (append_assoc ts (Punctuator Semicolon ∷ []) rest) ∙ c (Punctuator Semicolon ∷ rest) refl)) d)

mutual
  -- a statement of the grammar is read as its tree
  pub stmt_read : {scope : Scope} {o next next' : ℕ} {ts : List Token} {s : Stmt} → ReadsStmt scope o next ts s next' → IsClean scope → (room : ℕ) → room + o ≡ 64 → StmtClaim scope room next ts s next'
  stmt_read (assign a e) k room h = assign_claim a e k room h
  stmt_read (update a u e) k room h = update_claim a u e k room h
  stmt_read {scope} {o} {next} {next'} (if_only {c = c} {a = a} {ts = ts} {us = us} b r q) k room h = if_claim scope o next next' c a ts us b r (stmt_read q k) room h
  stmt_read {scope} {o} {next} {next'} (if_else {next' = middle} {c = c} {a = a} {b = b} {ts = ts} {us = us} {vs = vs} m r d p q) k room h =
      else_claim scope o next middle next' c a b ts us vs m r d (stmt_read p k) (stmt_read q k) room h
  stmt_read {scope} {o} {next} {next'} (for_loop {name = w} {start = start} {test = test} {step = turn} {body = body} {ts = ts} {us = us} {vs = vs} {ws = ws} b f s t i r) k room h =
      for_claim scope o next next' w start test turn body ts us vs ws b f s t i (stmt_read r (clean_more scope w (AVariable next 0) f.word k)) room h
  stmt_read {scope} {o} {next} {next'} (block {items = is} {ts = ts} b r) k room h = block_claim scope o next next' is ts b (items_read r k) room h
  stmt_read {scope} {o} {next} (print {spots = spots} {es = es} {parts = parts} {ts = ts} {us = us} b f a p) k room h = print_claim scope o next spots es parts ts us b f a p room h

  -- a block's items
  pub items_read : {scope : Scope} {o next next' : ℕ} {ts : List Token} {s : Items} → ReadsItems scope o next ts s next' → IsClean scope → (room : ℕ) → room + o ≡ 64 → ItemsClaim scope room next ts s next'
  items_read {scope} {next = next} no_more k room h = items_end scope room next
  items_read {scope} {next = next} {next' = next'} (line {n = at} {items = is} {ts = ts} r) k room h = line_claim scope room next next' at ts is (items_read r k room h)
  items_read {scope} {next = next} {next' = next'} (empty_local {name = w} {items = is} {ts = ts} f r) k room h =
      local_claim scope room next next' w None (Punctuator Semicolon ∷ []) ts is f (λ rest. refl) (items_read r (clean_more scope w (AVariable next 0) f.word k) room h)
  items_read {scope} {next = next} {next' = next'} (first_local {name = w} {e = e} {items = is} {ts = ts} {us = us} f q r) k room h =
      first_claim scope room next next' w e ts us is f (source_read q room h) (items_read r (clean_more scope w (AVariable next 0) f.word k) room h)
  items_read {scope} {next = next} {next' = next'} (statement {next' = middle} {s = s} {items = is} {ts = ts} {us = us} r q) k room h =
      stmt_claim scope room next middle next' ts us s is (stmt_begins r k) (items_no_else q k) (stmt_read r k room h) (items_read q k room h)
