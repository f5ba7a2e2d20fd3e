-- When two states are the same for whatever runs later.
use Rattle.std.specs.Prelude.{ℕ, Bool, true, not, ◌==◌, ◌&&◌, ◌||◌, ◌≡◌, List, [], ◌∷◌, ◌++◌, Option, Some, None}
use Rattle.std.specs.List.{list_any}
use Rattle.semantics.specs.Tree.{Variable, Expr, Literal, Constant, Object, Unary, Binary, Conditional, Exprs, no_exprs, more_exprs, Cond, NotZero, Compare, Not, LogicalAnd, LogicalOr, Source, Number, Truth, Increment, Up, Down, Set, Change, PrintPart, Characters, Decimal, Stmt, Assign, Update, If, IfElse, For, Block, Print, Items, no_items, mark, local, stmt}
use Rattle.semantics.specs.Meaning.State.{State}
use Rattle.semantics.specs.Loops.Piece.{Roles, is_outside}

-- it stands in the list
abbrev pub is_among : List Variable → Variable → Bool
is_among xs x = list_any (λ y. y == x) xs

abbrev mutual
  -- the variables that a statement declares: those of its loops, and its blocks' locals
  pub declared_in : Stmt → List Variable
  declared_in (Assign x is e) = []
  declared_in (Update x is op e) = []
  declared_in (If c a) = declared_in a
  declared_in (IfElse c a b) = declared_in a ++ declared_in b
  declared_in (For x name start test step body) = x ∷ declared_in body
  declared_in (Block items) = declared_among items
  declared_in (Print parts) = []

  -- those of a block's items
  pub declared_among : Items → List Variable
  declared_among no_items = []
  declared_among (mark line rest) = declared_among rest
  declared_among (local x name start rest) = x ∷ declared_among rest
  declared_among (stmt a rest) = declared_in a ++ declared_among rest

-- two states have the same cells, the visible locals stand in both or in neither, and the known ones hold the same
pub record Agrees (visible : Variable → Bool) (known : Variable → Bool) (s t : State) : Type 0 where
  pub cells : (x : Variable) (is : List ℕ) → s.cells x is ≡ t.cells x is
  pub kinds : (x : Variable) → visible x ≡ true → is_outside (s.locals x) ≡ is_outside (t.locals x)
  pub values : (x : Variable) → known x ≡ true → s.locals x ≡ t.locals x

-- what is visible behind a loop: what it does not declare itself
abbrev pub visible_behind : Stmt → Variable → Bool
visible_behind loop x = not (is_among (declared_in loop) x)

-- the same state behind a loop: locals in a private list are left out (C11 6.2.1 and 6.2.4; OpenMP 5.2, 5.4.3)
abbrev pub AgreesBehind : Stmt → Roles → State → State → Type 0
AgreesBehind loop roles s t =
    Agrees (visible_behind loop) (λ x. visible_behind loop x && not (is_among roles.privates x)) s t

-- a text names visible variables only
abbrev pub also : (Variable → Bool) → Variable → Variable → Bool
also V x y = (y == x) || V y

abbrev mutual
  -- of an expression
  pub names_expr : (Variable → Bool) → Expr → Bool
  names_expr V (Literal n suffix) = true
  names_expr V (Constant name n) = true
  names_expr V (Object x is) = V x && names_exprs V is
  names_expr V (Unary op a) = names_expr V a
  names_expr V (Binary op a b) = names_expr V a && names_expr V b
  names_expr V (Conditional c a b) = names_cond V c && names_expr V a && names_expr V b

  -- of subscripts
  pub names_exprs : (Variable → Bool) → Exprs → Bool
  names_exprs V no_exprs = true
  names_exprs V (more_exprs e es) = names_expr V e && names_exprs V es

  -- of a condition
  pub names_cond : (Variable → Bool) → Cond → Bool
  names_cond V (NotZero e) = names_expr V e
  names_cond V (Compare op a b) = names_expr V a && names_expr V b
  names_cond V (Not c) = names_cond V c
  names_cond V (LogicalAnd c d) = names_cond V c && names_cond V d
  names_cond V (LogicalOr c d) = names_cond V c && names_cond V d

-- of a right side
abbrev pub names_source : (Variable → Bool) → Source → Bool
names_source V (Number e) = names_expr V e
names_source V (Truth c) = names_cond V c

-- of an initialiser
abbrev pub names_start : (Variable → Bool) → Option Source → Bool
names_start V None = true
names_start V (Some e) = names_source V e

-- of a loop's step
abbrev pub names_step : (Variable → Bool) → Increment → Bool
names_step V (Up x) = V x
names_step V (Down x) = V x
names_step V (Set x e) = V x && names_source V e
names_step V (Change x op e) = V x && names_expr V e

-- of printf's arguments
abbrev pub names_parts : (Variable → Bool) → List PrintPart → Bool
names_parts V [] = true
names_parts V (Characters bs ∷ ps) = names_parts V ps
names_parts V (Decimal e ∷ ps) = names_expr V e && names_parts V ps

abbrev mutual
  -- a statement names what is visible round it and what it declares itself (C11 6.2.1)
  pub names_only : (Variable → Bool) → Stmt → Bool
  names_only V (Assign x is e) = V x && names_exprs V is && names_source V e
  names_only V (Update x is op e) = V x && names_exprs V is && names_expr V e
  names_only V (If c a) = names_cond V c && names_only V a
  names_only V (IfElse c a b) = names_cond V c && names_only V a && names_only V b
  names_only V (For x name start test step body) =
      names_source V start && names_cond (also V x) test && names_step (also V x) step && names_only (also V x) body
  names_only V (Block items) = names_items V items
  names_only V (Print parts) = names_parts V parts

  -- of a block's items, each local visible from its own declaration on
  pub names_items : (Variable → Bool) → Items → Bool
  names_items V no_items = true
  names_items V (mark line rest) = names_items V rest
  names_items V (local x name start rest) = names_start V start && names_items (also V x) rest
  names_items V (stmt a rest) = names_only V a && names_items V rest
