-- A tree with its directives, and what they name.
use Rattle.std.specs.Prelude.{ℕ, suc, ◌≡◌, ◌==◌, if◌then◌else◌, List, [], ◌∷◌, ◌++◌, map, length, All, Option, Some, None}
use Rattle.semantics.specs.Tree.{Name, Variable, Stmt, Assign, Update, If, IfElse, For, Block, Print, Items, no_items, mark, local, stmt, Declaration, Kernel}
use Rattle.semantics.specs.Source.Text.{line_at}
use Rattle.semantics.specs.Source.Scope.{Entity, AVariable, AConstant, Scope, find, with_constants}
use Rattle.semantics.specs.Meaning.Value.{map_option, both}
use Rattle.semantics.specs.Directives.Directive.{Clause, DefaultShared, DefaultNone, Nowait, Ordered, Shared, Private, Firstprivate, Lastprivate, LastConditional, Reduction, Inscan, ScheduledBy, Collapse, OrderedLoops, Directive, ParallelFor, Parallel, Worksharing, ScanInclusive, ScanExclusive, OrderedRegion, DoacrossSource, DoacrossSink}
use Rattle.semantics.specs.Directives.DirectiveGrammar.{ReadsLine}

-- directives by the numbers of their lines, in order
abbrev pub Directives : Type 0
Directives = List (ℕ × Directive Name)

-- the directive on a line
abbrev pub directive_at : Directives → ℕ → Option (Directive Name)
directive_at [] n = None
directive_at (d ∷ ds) n = if d.0 == n then Some d.1 else directive_at ds n

-- file-scope variables by name, from a number on
abbrev pub variables_from : Variable → List Declaration → Scope
variables_from x [] = []
variables_from x (d ∷ ds) = (d.name, AVariable x (length d.lengths)) ∷ variables_from (suc x) ds

-- what is visible in a kernel's own block (C11 6.2.1)
abbrev pub file_scope : Kernel → Scope
file_scope k = with_constants k.constants (variables_from 0 k.variables)

abbrev mutual
  -- the directive lines of a statement, each with what is visible there
  pub lines_in : Scope → Stmt → List (ℕ × Scope)
  lines_in scope (Assign x is e) = []
  lines_in scope (Update x is op e) = []
  lines_in scope (If c a) = lines_in scope a
  lines_in scope (IfElse c a b) = lines_in scope a ++ lines_in scope b
  lines_in scope (For x name start test step body) = lines_in ((name, AVariable x 0) ∷ scope) body
  lines_in scope (Block items) = lines_among scope items
  lines_in scope (Print parts) = []

  -- those of a block's items
  pub lines_among : Scope → Items → List (ℕ × Scope)
  lines_among scope no_items = []
  lines_among scope (mark n rest) = (n, scope) ∷ lines_among scope rest
  lines_among scope (local x name start rest) = lines_among ((name, AVariable x 0) ∷ scope) rest
  lines_among scope (stmt s rest) = lines_in scope s ++ lines_among scope rest

-- those of a text
abbrev pub lines_of : Kernel → List (ℕ × Scope)
lines_of k = lines_among (file_scope k) k.body

-- what is visible at a directive line
abbrev pub scope_at : List (ℕ × Scope) → ℕ → Scope
scope_at [] n = []
scope_at (l ∷ ls) n = if l.0 == n then l.1 else scope_at ls n

-- each directive line of the tree is read, as the line of the text that it is
pub record ReadsDirectives (text : List ℕ) (tree : Kernel) (directives : Directives) : Type 0 where
  pub lines : map (λ d. d.0) directives ≡ map (λ l. l.0) (lines_of tree)
  pub each : All (λ d. ReadsLine (line_at text d.0) d.1) directives

-- an enum constant is no variable
abbrev pub variable_of : Option Entity → Option Variable
variable_of None = None
variable_of (Some (AVariable x n)) = Some x
variable_of (Some (AConstant n)) = None

-- a name in a clause is that of a visible variable
abbrev pub resolve : Scope → Name → Option Variable
resolve scope name = variable_of (find scope name)

-- all of a list, or none
abbrev pub resolve_all : Scope → List Name → Option (List Variable)
resolve_all scope [] = Some []
resolve_all scope (w ∷ ws) = both (λ x xs. x ∷ xs) (resolve scope w) (resolve_all scope ws)

-- a clause with its names resolved
abbrev pub resolve_clause : Scope → Clause Name → Option (Clause Variable)
resolve_clause scope DefaultShared = Some DefaultShared
resolve_clause scope DefaultNone = Some DefaultNone
resolve_clause scope Nowait = Some Nowait
resolve_clause scope Ordered = Some Ordered
resolve_clause scope (Shared ws) = map_option Shared (resolve_all scope ws)
resolve_clause scope (Private ws) = map_option Private (resolve_all scope ws)
resolve_clause scope (Firstprivate ws) = map_option Firstprivate (resolve_all scope ws)
resolve_clause scope (Lastprivate ws) = map_option Lastprivate (resolve_all scope ws)
resolve_clause scope (LastConditional ws) = map_option LastConditional (resolve_all scope ws)
resolve_clause scope (Reduction op ws) = map_option (λ xs. Reduction op xs) (resolve_all scope ws)
resolve_clause scope (Inscan op w) = map_option (λ x. Inscan op x) (resolve scope w)
resolve_clause scope (ScheduledBy kind) = Some (ScheduledBy kind)
resolve_clause scope (Collapse c) = Some (Collapse c)
resolve_clause scope (OrderedLoops n) = Some (OrderedLoops n)

-- all of a directive
abbrev pub resolve_clauses : Scope → List (Clause Name) → Option (List (Clause Variable))
resolve_clauses scope [] = Some []
resolve_clauses scope (c ∷ cs) = both (λ d ds. d ∷ ds) (resolve_clause scope c) (resolve_clauses scope cs)

-- the clauses of a directive, as it has them
abbrev pub clauses_of : {A : Type 0} → Directive A → List (Clause A)
clauses_of (ParallelFor cs) = cs
clauses_of (Parallel cs) = cs
clauses_of (Worksharing cs) = cs
clauses_of (ScanInclusive x) = []
clauses_of (ScanExclusive x) = []
clauses_of OrderedRegion = []
clauses_of DoacrossSource = []
clauses_of (DoacrossSink es) = []

-- of no directive there are none
abbrev pub clauses_there : Option (Directive Name) → List (Clause Name)
clauses_there None = []
clauses_there (Some d) = clauses_of d

-- the clauses on a directive line of a kernel, their names resolved
abbrev pub clauses_at : Kernel → Directives → ℕ → Option (List (Clause Variable))
clauses_at k ds n = resolve_clauses (scope_at (lines_of k) n) (clauses_there (directive_at ds n))

-- each name in a clause is resolved
pub record IsResolved (tree : Kernel) (directives : Directives) : Type 0 where
  pub each : All (λ d. (cs : List (Clause Variable)) × (clauses_at tree directives d.0 ≡ Some cs)) directives
