-- Statements, as the code takes them apart.
use Rattle.std.specs.Prelude.{ℕ, zero, suc, Bool, true, false, ◌&&◌, if◌then◌else◌, List, ◌∷◌, Option, Some, codes}
use Rattle.semantics.specs.Tree.{Name, Source, Increment, Stmt, If, IfElse, Items, no_items, mark, local, stmt}
use Rattle.semantics.specs.Source.Token.{Token, Word, Punctuator, Line, OpenBrace}
use Rattle.semantics.specs.Source.Scope.{Scope, same_name}
use Rattle.cparse_grammar.specs.Reading.{Got, Reader, ◌>>=◌, got, chosen}
use Rattle.cparse_grammar.specs.Operators.{cond_in}
use Rattle.cparse_grammar.specs.ExpressionReader.{expression}
use Rattle.cparse_grammar.specs.StatementReader.{Tally, Told, StmtReader, Heading, told, no_stmt, declared, with_local, step, assignment, ended, initial, is_unused, statement, selection, iteration}
use Rattle.cparse_grammar.specs.PrintfReader.{printed}
use Rattle.cparse_grammar.specs.NextTokens.{new_name, open_paren, close_paren, word, equal_sign, semicolon}

-- behind a word that is neither `if` nor `for`
abbrev pub simple : ℕ → Scope → Tally → Name → List Token → Option (Told Stmt)
simple room scope tally w ts =
    if same_name w (codes "printf") then (printed room scope ts >>= λ s. ended tally s) else (assignment room scope w ts >>= λ s. ended tally s)

-- statements inside of what is opened once and twice
abbrev pub once : ℕ → StmtReader
once zero = no_stmt
once (suc room) = statement room

abbrev pub twice : ℕ → StmtReader
twice zero = no_stmt
twice (suc zero) = no_stmt
twice (suc (suc room)) = statement room

-- behind a word
abbrev pub headed : ℕ → Scope → Tally → Name → List Token → Option (Told Stmt)
headed room scope tally w ts =
    if same_name w (codes "if") then selection room (once room) (twice room) scope tally ts
    else (if same_name w (codes "for") then iteration room (once room) scope tally ts else simple room scope tally w ts)

-- items, what is visible behind them, and the tally and the tokens there
pub record Row : Type 0 where
  pub tree : Items
  pub sound : Bool
  pub scope : Scope
  pub tally : Tally
  pub rest : List Token

-- an item begins
abbrev pub begins_item : List Token → Bool
begins_item (Line n ∷ ts) = true
begins_item (Punctuator OpenBrace ∷ ts) = true
begins_item (Word w ∷ ts) = true
begins_item _ = false

-- a statement as an item
abbrev pub stated : StmtReader → Scope → Tally → List Token → Option Row
stated read scope tally ts = read scope tally ts >>= λ s. Some (record { tree = stmt s.tree no_items; sound = s.sound; scope = scope; tally = s.tally; rest = s.rest })

-- a local behind its type
abbrev pub located : ℕ → Scope → Tally → List Token → Option Row
located room scope tally ts =
    new_name ts >>= λ name. initial (expression room (with_local scope name.0 tally)) name.1 >>= λ start.
    Some (record {
      tree = local tally.next name.0 start.tree no_items;
      sound = is_unused scope name.0 && start.sound;
      scope = with_local scope name.0 tally;
      tally = declared tally;
      rest = start.rest;
    })

-- an item
abbrev pub item : ℕ → StmtReader → Scope → Tally → List Token → Option Row
item room read scope tally (Line line ∷ ts) = Some (record { tree = mark line no_items; sound = true; scope = scope; tally = tally; rest = ts })
item room read scope tally (Word w ∷ ts) = if same_name w (codes "uint64_t") then located room scope tally ts else stated read scope tally (Word w ∷ ts)
item room read scope tally ts = stated read scope tally ts

-- items behind others
abbrev pub append_items : Items → Items → Items
append_items no_items more = more
append_items (mark line rest) more = mark line (append_items rest more)
append_items (local x name start rest) more = local x name start (append_items rest more)
append_items (stmt s rest) more = stmt s (append_items rest more)

abbrev pub with_item : Row → Row → Row
with_item row one = record { tree = append_items row.tree one.tree; sound = row.sound && one.sound; scope = one.scope; tally = one.tally; rest = one.rest }

-- a loop's variable, up to the `=` behind it
abbrev pub counter : List Token → Option (Name × List Token)
counter ts = open_paren ts >>= λ inner. word (codes "uint64_t") inner >>= λ typed. new_name typed >>= λ name. equal_sign name.1 >>= λ behind. Some (name.0, behind)

-- an expression and the semicolon behind it
abbrev pub ended_source : Reader Source → Reader Source
ended_source whole ts = whole ts >>= λ e. semicolon e.rest >>= λ behind. got e.tree e.sound behind

-- a loop's step and the parenthesis that closes behind it
abbrev pub closed_step : Reader Source → Scope → Reader Increment
closed_step whole scope ts = step whole scope ts >>= λ turn. close_paren turn.rest >>= λ behind. got turn.tree turn.sound behind

-- a loop's head in these parts
abbrev pub heading_in_parts : ℕ → Scope → Tally → List Token → Option Heading
heading_in_parts room scope tally ts =
    counter ts >>= λ name. ended_source (expression room (with_local scope name.0 tally)) name.1 >>= λ start.
    ended_source (expression room (with_local scope name.0 tally)) start.rest >>= λ test.
    closed_step (expression room (with_local scope name.0 tally)) (with_local scope name.0 tally) test.rest >>= λ turn.
    Some (record {
      name = name.0;
      start = start.tree;
      test = test.tree;
      step = turn.tree;
      sound = is_unused scope name.0 && (start.sound && (test.sound && turn.sound));
      rest = turn.rest;
    })

-- an expression in parentheses
abbrev pub in_parens : Reader Source → Reader Source
in_parens whole ts = open_paren ts >>= λ inner. whole inner >>= λ e. close_paren e.rest >>= λ behind. got e.tree e.sound behind

-- behind the first statement of an `if`
abbrev pub otherwise : StmtReader → Scope → Got Source → Told Stmt → Option (Told Stmt)
otherwise read scope c a =
    chosen (word (codes "else") a.rest) (told (If (cond_in c.tree) a.tree) (c.sound && a.sound) a.tally a.rest)
    (λ other. read scope a.tally other >>= λ b. told (IfElse (cond_in c.tree) a.tree b.tree) (c.sound && (a.sound && b.sound)) b.tally b.rest)

-- an `if` in these parts, where two more may be opened
abbrev pub selection_in_parts : ℕ → Scope → Tally → List Token → Option (Told Stmt)
selection_in_parts room scope tally ts =
    in_parens (expression room scope) ts >>= λ c. statement (suc room) scope tally c.rest >>= λ a. otherwise (statement room) scope c a
