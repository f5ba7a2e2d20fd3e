-- The reading of statements from the front of a list of tokens.
use Rattle.std.specs.Prelude.{ℕ, zero, suc, Bool, true, false, ◌&&◌, ◌==◌, if◌then◌else◌, List, ◌∷◌, length, Option, Some, None, is_none, codes}
use Rattle.semantics.specs.Tree.{Name, Variable, Exprs, Source, Increment, Up, Down, Set, Change, Stmt, Assign, Update, If, IfElse, For, Block, Items, no_items, mark, local, stmt}
use Rattle.semantics.specs.Source.Token.{Token, Word, Punctuator, Line, Symbol, Semicolon, OpenBrace, PlusPlus, MinusMinus, EqualSign}
use Rattle.semantics.specs.Source.Scope.{Scope, Entity, AVariable, find, count, same_name}
use Rattle.cparse_grammar.specs.Reading.{Got, Reader, ◌>>=◌, got, chosen}
use Rattle.cparse_grammar.specs.NextTokens.{semicolon, open_paren, close_paren, equal_sign, close_brace, sign, word, new_name, may_be_named}
use Rattle.cparse_grammar.specs.Operators.{update_of, number_in, is_number, cond_in}
use Rattle.cparse_grammar.specs.ExpressionReader.{subscripts, inside, expression}
use Rattle.cparse_grammar.specs.PrintfReader.{printed}

-- nothing visible has this name
abbrev pub is_unused : Scope → Name → Bool
is_unused scope name = is_none (find scope name)

-- the variable that is set, and whether it may be, with these subscripts
abbrev pub target_of : Option Entity → Variable
target_of (Some (AVariable x n)) = x
target_of _ = 0

abbrev pub may_set : Option Entity → Exprs → Bool
may_set (Some (AVariable x n)) is = n == count is
may_set _ is = false

-- a scalar
abbrev pub may_step : Option Entity → Bool
may_step (Some (AVariable x n)) = n == 0
may_step _ = false

-- a loop's step behind its variable
abbrev pub step_behind : Reader Source → Option Entity → Symbol → Reader Increment
step_behind whole entity PlusPlus ts = got (Up (target_of entity)) (may_step entity) ts
step_behind whole entity MinusMinus ts = got (Down (target_of entity)) (may_step entity) ts
step_behind whole entity EqualSign ts = whole ts >>= λ e. got (Set (target_of entity) e.tree) (may_step entity && e.sound) e.rest
step_behind whole entity s ts =
    chosen (update_of s) None
    (λ op. whole ts >>= λ e. got (Change (target_of entity) op (number_in e.tree)) (may_step entity && (e.sound && is_number e.tree)) e.rest)

-- a name where a variable stands; no other word does
abbrev pub if_named : {A : Type 0} → Scope → Name → Option A → Option A
if_named scope name read = if may_be_named (find scope name) name then read else None

-- C11 6.5.2.4, 6.5.3.1 and 6.5.16
unfoldable pub step : Reader Source → Scope → Reader Increment
step whole scope (Punctuator PlusPlus ∷ Word name ∷ ts) = if_named scope name (got (Up (target_of (find scope name))) (may_step (find scope name)) ts)
step whole scope (Punctuator MinusMinus ∷ Word name ∷ ts) = if_named scope name (got (Down (target_of (find scope name))) (may_step (find scope name)) ts)
step whole scope (Word name ∷ Punctuator s ∷ ts) = if_named scope name (step_behind whole (find scope name) s ts)
step whole scope _ = None

-- the number of the next variable, and how many statements may still follow
pub record Tally : Type 0 where
  pub next : ℕ
  pub left : ℕ

-- what was read, with the tally behind it
pub record Told (A : Type 0) : Type 0 where
  pub tree : A
  pub sound : Bool
  pub tally : Tally
  pub rest : List Token

abbrev pub told : {A : Type 0} → A → Bool → Tally → List Token → Option (Told A)
told tree sound tally rest = Some (record { tree = tree; sound = sound; tally = tally; rest = rest })

abbrev pub StmtReader : Type 0
StmtReader = Scope → Tally → List Token → Option (Told Stmt)

-- nothing more may be opened
abbrev pub no_stmt : StmtReader
no_stmt scope tally ts = None

-- one statement more
abbrev pub spent : ℕ → ℕ → Option Tally
spent next zero = None
spent next (suc n) = Some (record { next = next; left = n })

abbrev pub spend : Tally → Option Tally
spend t = spent t.next t.left

-- one variable more
abbrev pub declared : Tally → Tally
declared t = record { next = suc t.next; left = t.left }

-- a local or a loop's variable, as it is visible
abbrev pub with_local : Scope → Name → Tally → Scope
with_local scope name t = (name, AVariable t.next 0) ∷ scope

-- the right side behind `=` or `op=`
abbrev pub assigned : Reader Source → Option Entity → Exprs → Bool → Symbol → Reader Stmt
assigned whole entity is sound EqualSign ts = whole ts >>= λ e. got (Assign (target_of entity) is e.tree) (sound && (may_set entity is && e.sound)) e.rest
assigned whole entity is sound s ts =
    chosen (update_of s) None
    (λ op. whole ts >>= λ e. got (Update (target_of entity) is op (number_in e.tree)) (sound && (may_set entity is && (e.sound && is_number e.tree))) e.rest)

-- C11 6.5.16
unfoldable pub assignment : ℕ → Scope → Name → Reader Stmt
assignment room scope name ts =
    if_named scope name
    (subscripts (length ts) (inside room scope) ts >>= λ is. sign is.rest >>= λ s. assigned (expression room scope) (find scope name) is.tree is.sound s.0 s.1)

-- a statement that ends in a semicolon
abbrev pub ended : Tally → Got Stmt → Option (Told Stmt)
ended tally s = semicolon s.rest >>= λ behind. told s.tree s.sound tally behind

-- a local's first value, if it has one
abbrev pub initial : Reader Source → Reader (Option Source)
initial whole (Punctuator Semicolon ∷ ts) = got None true ts
initial whole (Punctuator EqualSign ∷ ts) = whole ts >>= λ e. semicolon e.rest >>= λ behind. got (Some e.tree) e.sound behind
initial whole _ = None

-- an item in front of others
abbrev pub with_stmt : Told Stmt → Told Items → Option (Told Items)
with_stmt s more = told (stmt s.tree more.tree) (s.sound && more.sound) more.tally more.rest

-- a block's items, so many at most; it ends in front of what begins none (C11 6.8.2)
abbrev pub items : ℕ → ℕ → StmtReader → Scope → Tally → List Token → Option (Told Items)
items (suc n) room read scope tally (Line line ∷ ts) =
    items n room read scope tally ts >>= λ more. told (mark line more.tree) more.sound more.tally more.rest
items (suc n) room read scope tally (Punctuator OpenBrace ∷ ts) =
    read scope tally (Punctuator OpenBrace ∷ ts) >>= λ s. items n room read scope s.tally s.rest >>= λ more. with_stmt s more
items (suc n) room read scope tally (Word w ∷ ts) =
    if same_name w (codes "uint64_t")
    then (new_name ts >>= λ name. initial (expression room (with_local scope name.0 tally)) name.1 >>= λ start.
    items n room read (with_local scope name.0 tally) (declared tally) start.rest >>= λ more.
    told (local tally.next name.0 start.tree more.tree) (is_unused scope name.0 && (start.sound && more.sound)) more.tally more.rest)
    else (read scope tally (Word w ∷ ts) >>= λ s. items n room read scope s.tally s.rest >>= λ more. with_stmt s more)
items n room read scope tally ts = told no_items true tally ts

-- behind `{`
unfoldable pub block : ℕ → StmtReader → Scope → Tally → List Token → Option (Told Stmt)
block zero read scope tally ts = None
block (suc room) read scope tally ts =
    items (length ts) room read scope tally ts >>= λ is. close_brace is.rest >>= λ behind. told (Block is.tree) is.sound is.tally behind

-- behind the word if (C11 6.8.4.1)
unfoldable pub selection : ℕ → StmtReader → StmtReader → Scope → Tally → List Token → Option (Told Stmt)
selection (suc (suc room)) read read_else scope tally ts =
    open_paren ts >>= λ inner. expression room scope inner >>= λ c. close_paren c.rest >>= λ behind. read scope tally behind >>= λ a.
    chosen (word (codes "else") a.rest) (told (If (cond_in c.tree) a.tree) (c.sound && a.sound) a.tally a.rest)
    (λ other. read_else scope a.tally other >>= λ b. told (IfElse (cond_in c.tree) a.tree b.tree) (c.sound && (a.sound && b.sound)) b.tally b.rest)
selection room read read_else scope tally ts = None

-- a loop's start, test and step
pub record Heading : Type 0 where
  pub name : Name
  pub start : Source
  pub test : Source
  pub step : Increment
  pub sound : Bool
  pub rest : List Token

-- behind the word for, up to the parenthesis that closes (C11 6.8.5.3)
unfoldable pub heading : ℕ → Scope → Tally → List Token → Option Heading
heading room scope tally ts =
    open_paren ts >>= λ inner. word (codes "uint64_t") inner >>= λ typed'. new_name typed' >>= λ name. equal_sign name.1 >>= λ behind.
    expression room (with_local scope name.0 tally) behind >>= λ start. semicolon start.rest >>= λ first.
    expression room (with_local scope name.0 tally) first >>= λ test. semicolon test.rest >>= λ second.
    step (expression room (with_local scope name.0 tally)) (with_local scope name.0 tally) second >>= λ turn. close_paren turn.rest >>= λ body.
    Some (record {
      name = name.0;
      start = start.tree;
      test = test.tree;
      step = turn.tree;
      sound = is_unused scope name.0 && (start.sound && (test.sound && turn.sound));
      rest = body;
    })

unfoldable pub iteration : ℕ → StmtReader → Scope → Tally → List Token → Option (Told Stmt)
iteration (suc (suc room)) read scope tally ts =
    heading room scope tally ts >>= λ h. read (with_local scope h.name tally) (declared tally) h.rest >>= λ s.
    told (For tally.next h.name h.start (cond_in h.test) h.step s.tree) (h.sound && s.sound) s.tally s.rest
iteration room read scope tally ts = None

-- by the first token, with the readers of what is nested once and twice
abbrev pub by_head : ℕ → StmtReader → StmtReader → StmtReader
by_head room once twice scope tally (Punctuator OpenBrace ∷ ts) = block room once scope tally ts
by_head room once twice scope tally (Word w ∷ ts) =
    if same_name w (codes "if") then selection room once twice scope tally ts
    else (if same_name w (codes "for") then iteration room once scope tally ts
    else (if same_name w (codes "printf") then (printed room scope ts >>= λ s. ended tally s)
    else (assignment room scope w ts >>= λ s. ended tally s)))
by_head room once twice scope tally _ = None

abbrev pub counted : ℕ → StmtReader → StmtReader → StmtReader
counted room once twice scope tally ts = spend tally >>= λ t. by_head room once twice scope t ts

-- a statement where so much may still be opened (C11 6.8)
abbrev pub statement : ℕ → StmtReader
statement zero = counted zero no_stmt no_stmt
statement (suc zero) = counted (suc zero) (statement zero) no_stmt
statement (suc (suc room)) = counted (suc (suc room)) (statement (suc room)) (statement room)
