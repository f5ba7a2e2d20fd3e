-- What the clauses of parallel loops say of their scalars, and loops that keep to it. (OpenMP 5.2, 5.1.1, 5.4.3, 5.4.5 and 5.5.8)
use Rattle.std.specs.Prelude.{ℕ, true, ◌≡◌, List, [], ◌∷◌, ◌++◌, map, filter, flat_map, Some, IsSome}
use Rattle.std.specs.List.{list_all}
use Rattle.semantics.specs.Tree.{Variable, Stmt, Assign, Update, If, IfElse, For, Block, Print, Items, no_items, mark, local, stmt}
use Rattle.semantics.specs.Meaning.Definite.{Privates, no_privates, definite}
use Rattle.semantics.specs.Loops.Nest.{Loop, nest_of}
use Rattle.semantics.specs.Loops.Piece.{Roles}
use Rattle.semantics.specs.Directives.Directive.{Clause}
use Rattle.semantics.specs.Loops.Operator.{ReduceOp}
use Rattle.semantics.specs.Directives.Clauses.{private_of, last_of, reduction_of, inscan_of}
use Rattle.law_roles.specs.Updates.{is_plain, reduces}
use Rattle.law_roles.specs.Sharing.{assigned_first, role_variables, are_different, AssignsAll}
use Rattle.pragma.specs.Parallel.{AskedOfLoop, LineHas}
use Rattle.pragma_named.specs.Known.{Known, lines_known}
use Rattle.flow_definite.specs.Judged.{is_local}
use Rattle.flow.specs.Private.{is_private_body, all_but}

-- what the clauses of a directive line say of the scalars that its loop assigns: their roles, and which ones are carried from one iteration to the next, as that of a scan is (OpenMP 5.2, 5.6)
pub record LoopData : Type 0 where
  pub roles : Roles
  pub carried : List (Variable × ReduceOp)

-- so it is of each directive line, by its number
abbrev pub LineData : Type 0
LineData = ℕ → LoopData

-- the roles by which a loop leaves its scalars: a carried variable is left as a reduction variable
abbrev pub left_roles : LoopData → Roles
left_roles d = record d.roles { reductions = d.roles.reductions ++ d.carried }

-- what the clauses of a line say of the scalars that their loop assigns, where so many variables stand at file scope: the locals in private lists, the lastprivate variables and those that are reduced (OpenMP 5.2, 5.4.3, 5.4.5 and 5.5.8)
abbrev pub line_roles : ℕ → List (Clause Variable) → Roles
line_roles files cs =
    record {
      privates = filter (is_local files) (flat_map private_of cs);
      firsts = [];
      lasts = flat_map last_of cs;
      conditionals = [];
      reductions = flat_map reduction_of cs;
    }

-- so of each line, by what is known of its clauses
abbrev pub roles_known : Known → ℕ → ℕ → Roles
roles_known known files line = line_roles files (lines_known known line)

-- and with the variable of a scan
abbrev pub line_data : ℕ → List (Clause Variable) → LoopData
line_data files cs = record { roles = line_roles files cs; carried = flat_map inscan_of cs }

abbrev pub data_known : Known → ℕ → LineData
data_known known files line = line_data files (lines_known known line)

-- the private locals of each line
abbrev pub privates_by : LineData → Privates
privates_by R line = (R line).roles.privates

-- a nest of so many loops whose body assigns of scalars those alone that it declares, that have a role, or that are carried: private and lastprivate ones before it reads them, lastprivate ones on every path, and reduction variables in updates alone; none of these has two roles
pub record KeepsItsRoles (d : LoopData) (n : ℕ) (s : Stmt) : Type 0 where
  pub loops : List Loop
  pub body : Stmt
  pub nest : nest_of n s ≡ Some (loops, body)
  pub keeps : is_private_body (role_variables (left_roles d)) body ≡ true
  pub different : are_different (map (λ r. r.0) d.roles.reductions) ≡ true
  pub apart : list_all (is_plain d.roles.reductions) (assigned_first d.roles) ≡ true
  pub once : list_all (all_but (assigned_first d.roles)) (map (λ r. r.0) d.carried) ≡ true
  pub first : IsSome (definite no_privates s (all_but (assigned_first d.roles)))
  pub last : (d.roles.lasts ≡ [] → ⊥) → AssignsAll (assigned_first d.roles) d.roles.lasts body
  pub updates : reduces d.roles.reductions s ≡ true

-- so is the loop behind a directive
abbrev pub KeepsRolesThere : LoopData → AskedOfLoop
KeepsRolesThere d serial n s = KeepsItsRoles d n s

-- what is asked of a parallel loop by the number of its line
abbrev pub AskedByLine : Type 1
AskedByLine = ℕ → AskedOfLoop

abbrev mutual
  -- each parallel loop in a statement inside these loops is so
  pub LoopsHaveBy : List ℕ → AskedByLine → List Loop → Stmt → Type 0
  LoopsHaveBy text Q serial (Assign x is e) = Unit {0}
  LoopsHaveBy text Q serial (Update x is op e) = Unit {0}
  LoopsHaveBy text Q serial (If c a) = LoopsHaveBy text Q serial a
  LoopsHaveBy text Q serial (IfElse c a b) = LoopsHaveBy text Q serial a × LoopsHaveBy text Q serial b
  LoopsHaveBy text Q serial (For x name start test step body) =
      LoopsHaveBy text Q (serial ++ record { variable = x; start = start; test = test; step = step } ∷ []) body
  LoopsHaveBy text Q serial (Block items) = ItemsHaveBy text Q serial items
  LoopsHaveBy text Q serial (Print parts) = Unit {0}

  -- of a block's items
  pub ItemsHaveBy : List ℕ → AskedByLine → List Loop → Items → Type 0
  ItemsHaveBy text Q serial no_items = Unit {0}
  ItemsHaveBy text Q serial (mark line rest) = LineHas text (Q line) serial line rest × ItemsHaveBy text Q serial rest
  ItemsHaveBy text Q serial (local x name start rest) = ItemsHaveBy text Q serial rest
  ItemsHaveBy text Q serial (stmt s rest) = LoopsHaveBy text Q serial s × ItemsHaveBy text Q serial rest

-- each parallel loop among these items keeps the roles of its line
abbrev pub ItemsKeepRoles : List ℕ → LineData → List Loop → Items → Type 0
ItemsKeepRoles text R serial items = ItemsHaveBy text (λ line. KeepsRolesThere (R line)) serial items

abbrev pub LoopsKeepRoles : List ℕ → LineData → List Loop → Stmt → Type 0
LoopsKeepRoles text R serial s = LoopsHaveBy text (λ line. KeepsRolesThere (R line)) serial s

-- what the first of these items asks for as a directive line before others
abbrev pub FirstLineKeepsRoles : List ℕ → LineData → Items → Items → Type 0
FirstLineKeepsRoles text R (mark line items) rest = LineHas text (KeepsRolesThere (R line)) [] line rest
FirstLineKeepsRoles text R _ rest = Unit {0}

-- and as a statement
abbrev pub FirstLoopsKeepRoles : List ℕ → LineData → Items → Type 0
FirstLoopsKeepRoles text R (stmt s items) = LoopsKeepRoles text R [] s
FirstLoopsKeepRoles text R _ = Unit {0}

-- a nest assigns its private and lastprivate scalars before it reads them
abbrev pub ReadsAssigned : Roles → Stmt → Type 0
ReadsAssigned roles s = IsSome (definite no_privates s (all_but (assigned_first roles)))

-- a loop's body assigns each lastprivate scalar on every path, if there are any
abbrev pub AssignsLasts : Roles → Stmt → Type 0
AssignsLasts roles body = (roles.lasts ≡ [] → ⊥) → AssignsAll (assigned_first roles) roles.lasts body

-- no reduction variable has a second role
abbrev pub HaveOneRole : Roles → Type 0
HaveOneRole roles = (are_different (map (λ r. r.0) roles.reductions) ≡ true) × (list_all (is_plain roles.reductions) (assigned_first roles) ≡ true)

-- nor has a carried one
abbrev pub CarriesOthers : LoopData → Type 0
CarriesOthers d = list_all (all_but (assigned_first d.roles)) (map (λ r. r.0) d.carried) ≡ true
