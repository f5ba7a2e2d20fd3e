-- What is asked of the loops behind lines, item by item, and that nothing is asked where no line stands.
use Rattle.std.specs.Prelude.{ℕ, Bool, true, false, if◌then◌else◌, ◌≡◌, List, [], ◌∷◌, ◌++◌, Option, Some, None}
use Rattle.std.proofs.lemmas.Bool.{or_parts}
use Rattle.semantics.specs.Tree.{Name, Variable, Source, Stmt, Assign, Update, If, IfElse, For, Block, Print, Items, no_items, mark, local, stmt}
use Rattle.semantics.specs.Source.Text.{line_at}
use Rattle.semantics.specs.Loops.Nest.{Loop}
use Rattle.semantics.specs.Directives.Directive.{Schedule}
use Rattle.pragma.specs.Clauses.{ReadsLoop}
use Rattle.pragma.specs.Parallel.{associated, FirstHas, LoopsHave, ItemsHave}
use Rattle.pragma.specs.Plain.{has_line, has_line_among, IsPlainFor, IsPlainLoop}
use Rattle.flow.specs.Roles.{AskedByLine, LoopsHaveBy, ItemsHaveBy}

-- a loop that holds no line stands first
abbrev IsPlainFirst : Items → Type 0
IsPlainFirst no_items = ⊥
IsPlainFirst (mark n rest) = ⊥
IsPlainFirst (local x name start rest) = ⊥
IsPlainFirst (stmt s rest) = IsPlainFor s

plain_first : (serial : List Loop) (m : ℕ) (items : Items) → FirstHas IsPlainLoop serial m items → IsPlainFirst items
plain_first serial m no_items h = h
plain_first serial m (mark n rest) h = h
plain_first serial m (local x name start rest) h = h
plain_first serial m (stmt s rest) h = h

-- so it is behind a line
abbrev StandsBehind : Option ℕ → Items → Type 0
StandsBehind None items = Unit {0}
StandsBehind (Some n) items = IsPlainFirst items

module _ (text : List ℕ) (P : AskedByLine) where
  -- nothing is asked where no line stands
  mutual
    quiet_in : (serial : List Loop) (s : Stmt) → has_line s ≡ false → LoopsHaveBy text P serial s
    quiet_in serial (Assign x is e) h = tt
    quiet_in serial (Update x is op e) h = tt
    quiet_in serial (If c a) h = quiet_in serial a h
    quiet_in serial (IfElse c a b) h = let none = or_parts (has_line a) (has_line b) h in (quiet_in serial a none.0, quiet_in serial b none.1)
    quiet_in serial (For x name start test step body) h = quiet_in (serial ++ record { variable = x; start = start; test = test; step = step } ∷ []) body h
    quiet_in serial (Block items) h = quiet_among serial items h
    quiet_in serial (Print parts) h = tt

    quiet_among : (serial : List Loop) (items : Items) → has_line_among items ≡ false → ItemsHaveBy text P serial items
    quiet_among serial no_items h = tt
    quiet_among serial (mark n rest) h = absurd (cc h)
    quiet_among serial (local x name start rest) h = quiet_among serial rest h
    quiet_among serial (stmt s rest) h = let none = or_parts (has_line s) (has_line_among rest) h in (quiet_in serial s none.0, quiet_among serial rest none.1)

  quiet_loop : (serial : List Loop) (s : Stmt) → IsPlainFor s → LoopsHaveBy text P serial s
  quiet_loop serial (For x name start test step body) h = quiet_in (serial ++ record { variable = x; start = start; test = test; step = step } ∷ []) body h
  quiet_loop serial (Assign x is e) h = absurd h
  quiet_loop serial (Update x is op e) h = absurd h
  quiet_loop serial (If c a) h = absurd h
  quiet_loop serial (IfElse c a b) h = absurd h
  quiet_loop serial (Block items) h = absurd h
  quiet_loop serial (Print parts) h = absurd h

  -- what a line asks of a statement, and of the first of these items
  abbrev pub AskedBehind : ℕ → List Loop → Stmt → Type 0
  AskedBehind n serial s = (j : Option Schedule) (c : Option ℕ) → ReadsLoop (line_at text n) j c → P n serial (associated c) s

  abbrev AskedOfFirst : Option ℕ → List Loop → Items → Type 0
  AskedOfFirst None serial items = Unit {0}
  AskedOfFirst (Some n) serial items = (j : Option Schedule) (c : Option ℕ) → ReadsLoop (line_at text n) j c → FirstHas (P n) serial (associated c) items

  -- where no loop stands first, nothing is asked of it
  none_stands : (before : Option ℕ) (serial : List Loop) (items : Items) → (IsPlainFirst items → ⊥) → StandsBehind before items → AskedOfFirst before serial items
  none_stands None serial items never h = tt
  none_stands (Some n) serial items never h = λ j c r. absurd (never h)

  -- items behind a line, or behind none, are as it is asked, where each line of theirs has a loop without lines
  abbrev pub Stand : List Loop → Option ℕ → Items → Type 0
  Stand serial before items = StandsBehind before items → ItemsHave text IsPlainLoop serial items → AskedOfFirst before serial items × ItemsHaveBy text P serial items

  pub all_stand : (serial : List Loop) (items : Items) → Stand serial None items → ItemsHave text IsPlainLoop serial items → ItemsHaveBy text P serial items
  all_stand serial items stand p = (stand tt p).1

  -- the end of a block
  pub end_stands : (serial : List Loop) (before : Option ℕ) → Stand serial before no_items
  end_stands serial before first p = (none_stands before serial no_items (λ e. e) first, tt)

  -- a line that is left out, or one that stands
  pub line_stands : (serial : List Loop) (before : Option ℕ) (n : ℕ) (rest : Items) (out : Bool) → Stand serial (if out then before else Some n) rest → Stand serial before (if out then rest else mark n rest)
  line_stands serial before n rest true stand first p = stand first p
  line_stands serial before n rest false stand first (line, p) =
      let further = stand (plain_first serial (associated line.1) rest line.3) p in
      (none_stands before serial (mark n rest) (λ e. e) first, ((line.0, line.1, line.2, further.0 line.0 line.1 line.2), further.1))

  -- a local
  pub local_stands : (serial : List Loop) (before : Option ℕ) (x : Variable) (name : Name) (start : Option Source) (rest : Items) → Stand serial None rest → Stand serial before (local x name start rest)
  local_stands serial before x name start rest stand first p = (none_stands before serial (local x name start rest) (λ e. e) first, all_stand serial rest stand p)

  -- a statement behind no line
  pub statement_stands : (serial : List Loop) (s : Stmt) (rest : Items) → (LoopsHave text IsPlainLoop serial s → LoopsHaveBy text P serial s) → Stand serial None rest → Stand serial None (stmt s rest)
  statement_stands serial s rest here stand first p = (tt, (here p.0, all_stand serial rest stand p.1))

  -- a loop behind a line
  pub loop_stands : (n : ℕ) (serial : List Loop) (s : Stmt) (rest : Items) → AskedBehind n serial s → Stand serial None rest → Stand serial (Some n) (stmt s rest)
  loop_stands n serial s rest asked stand first p = (asked, (quiet_loop serial s first, all_stand serial rest stand p.1))
