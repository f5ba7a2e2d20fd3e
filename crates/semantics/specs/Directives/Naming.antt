-- Which variables a construct names, and the clauses that they stand in (OpenMP 5.2, 5.1.1 and 5.4.1).
use Rattle.std.specs.Prelude.{ℕ, Bool, true, false, not, ◌&&◌, ◌||◌, ◌≡◌, List, [], ◌∷◌, ◌++◌, filter, flat_map, All, Option, Some, None}
use Rattle.std.specs.List.{list_any, list_all}
use Rattle.semantics.specs.Tree.{Variable, Expr, Literal, Constant, Object, Unary, Binary, Conditional, Exprs, no_exprs, more_exprs, Cond, NotZero, Compare, Not, LogicalAnd, LogicalOr, Source, Number, Truth, Increment, Up, Down, Set, Change, PrintPart, Characters, Decimal, Stmt, Assign, Update, If, IfElse, For, Block, Print, Items, no_items, mark, local, stmt, Kernel}
use Rattle.semantics.specs.Directives.Directive.{Clause, DefaultNone, Shared, Private, Firstprivate, Lastprivate, LastConditional, Reduction, Inscan}
use Rattle.semantics.specs.Directives.Annotated.{Directives, ReadsDirectives, IsResolved, clauses_at}
use Rattle.semantics.specs.Directives.Placed.{is_well_placed}
use Rattle.semantics.specs.Directives.Clauses.{private_of, first_of}
use Rattle.semantics.specs.Meaning.Agrees.{declared_in, is_among}

abbrev mutual
  pub named_expr : Expr → List Variable
  named_expr (Literal n suffix) = []
  named_expr (Constant name n) = []
  named_expr (Object x is) = x ∷ named_exprs is
  named_expr (Unary op a) = named_expr a
  named_expr (Binary op a b) = named_expr a ++ named_expr b
  named_expr (Conditional c a b) = named_cond c ++ named_expr a ++ named_expr b

  -- those of subscripts
  pub named_exprs : Exprs → List Variable
  named_exprs no_exprs = []
  named_exprs (more_exprs e es) = named_expr e ++ named_exprs es

  -- those of a condition
  pub named_cond : Cond → List Variable
  named_cond (NotZero a) = named_expr a
  named_cond (Compare op a b) = named_expr a ++ named_expr b
  named_cond (Not c) = named_cond c
  named_cond (LogicalAnd c d) = named_cond c ++ named_cond d
  named_cond (LogicalOr c d) = named_cond c ++ named_cond d

-- those of a right side
abbrev pub named_source : Source → List Variable
named_source (Number a) = named_expr a
named_source (Truth c) = named_cond c

-- those of an initialiser
abbrev pub named_start : Option Source → List Variable
named_start None = []
named_start (Some a) = named_source a

-- those of a loop's step
abbrev pub named_step : Increment → List Variable
named_step (Up x) = x ∷ []
named_step (Down x) = x ∷ []
named_step (Set x a) = x ∷ named_source a
named_step (Change x op a) = x ∷ named_expr a

-- those of printf's arguments
abbrev pub named_part : PrintPart → List Variable
named_part (Characters bs) = []
named_part (Decimal a) = named_expr a

abbrev mutual
  -- the variables that a statement names, its loops' heads too
  pub named_in : Stmt → List Variable
  named_in (Assign x is a) = x ∷ (named_exprs is ++ named_source a)
  named_in (Update x is op a) = x ∷ (named_exprs is ++ named_expr a)
  named_in (If c a) = named_cond c ++ named_in a
  named_in (IfElse c a b) = named_cond c ++ named_in a ++ named_in b
  named_in (For x name start test step body) = named_source start ++ named_cond test ++ named_step step ++ named_in body
  named_in (Block items) = named_among items
  named_in (Print parts) = flat_map named_part parts

  -- those of a block's items
  pub named_among : Items → List Variable
  named_among no_items = []
  named_among (mark line rest) = named_among rest
  named_among (local x name start rest) = named_start start ++ named_among rest
  named_among (stmt a rest) = named_in a ++ named_among rest

-- those that it does not declare itself
abbrev pub outside_of : Stmt → List Variable
outside_of s = filter (λ x. not (is_among (declared_in s) x)) (named_in s)

-- the names that a clause lists
abbrev pub variables_in : {A : Type 0} → Clause A → List A
variables_in (Shared xs) = xs
variables_in (Private xs) = xs
variables_in (Firstprivate xs) = xs
variables_in (Lastprivate xs) = xs
variables_in (LastConditional xs) = xs
variables_in (Reduction op xs) = xs
variables_in (Inscan op x) = x ∷ []
variables_in _ = []

-- OpenMP 5.2, 5.4.1
abbrev pub is_none : {A : Type 0} → Clause A → Bool
is_none DefaultNone = true
is_none _ = false

-- no variable stands twice
abbrev pub are_distinct : List Variable → Bool
are_distinct [] = true
are_distinct (x ∷ xs) = not (is_among xs x) && are_distinct xs

-- under default(none) each of these variables stands in a clause
abbrev pub covers : List (Clause Variable) → List Variable → Bool
covers cs xs = not (list_any is_none cs) || list_all (is_among (flat_map variables_in cs)) xs

-- what a `parallel` makes private itself
abbrev pub kept_private : Clause Variable → List Variable
kept_private c = private_of c ++ first_of c

-- directive lines with the statement behind them; before: the line before
abbrev pub behind_line : Option ℕ → Stmt → List (ℕ × Stmt)
behind_line None s = []
behind_line (Some n) s = (n, s) ∷ []

abbrev mutual
  pub constructs_in : Stmt → List (ℕ × Stmt)
  constructs_in (Assign x is a) = []
  constructs_in (Update x is op a) = []
  constructs_in (If c a) = constructs_in a
  constructs_in (IfElse c a b) = constructs_in a ++ constructs_in b
  constructs_in (For x name start test step body) = constructs_in body
  constructs_in (Block items) = constructs_among None items
  constructs_in (Print parts) = []

  -- those of a block's items
  pub constructs_among : Option ℕ → Items → List (ℕ × Stmt)
  constructs_among before no_items = []
  constructs_among before (mark n rest) = constructs_among (Some n) rest
  constructs_among before (local x name start rest) = constructs_among None rest
  constructs_among before (stmt s rest) = behind_line before s ++ constructs_in s ++ constructs_among None rest

-- the names in all clauses of a directive
abbrev pub variables_there : Option (List (Clause Variable)) → List Variable
variables_there None = []
variables_there (Some cs) = flat_map variables_in cs

-- what the directives inside a statement name in their clauses
abbrev pub named_inside : Kernel → Directives → Stmt → List Variable
named_inside k ds s = flat_map (λ c. variables_there (clauses_at k ds c.0)) (constructs_in s)

-- a variable stands once in a directive's clauses, a `for` names only what is shared in its `parallel`, and default(none) is met
pub record NamesRightly (k : Kernel) (ds : Directives) (construct : ℕ × Stmt) : Type 0 where
  pub clauses : List (Clause Variable)
  pub are : clauses_at k ds construct.0 ≡ Some clauses
  pub once : are_distinct (flat_map variables_in clauses) ≡ true
  pub shared : list_any (is_among (flat_map kept_private clauses)) (named_inside k ds construct.1) ≡ false
  pub covered : covers clauses (outside_of construct.1 ++ named_inside k ds construct.1) ≡ true

-- each construct names rightly
abbrev pub NameRightly : Kernel → Directives → Type 0
NameRightly k ds = All (NamesRightly k ds) (constructs_among None k.body)

-- a tree's directives, as they are attached to it
pub record IsAttached (text : List ℕ) (tree : Kernel) (directives : Directives) : Type 0 where
  pub read : ReadsDirectives text tree directives
  pub placed : is_well_placed tree directives ≡ true
  pub resolved : IsResolved tree directives
  pub named : NameRightly tree directives
