-- The element accesses of a loop's body, guards ignored, and the conflicts of iterations. (C11 5.1.2.4, 4; OpenMP 5.2, 1.4.1)
use Rattle.std.specs.Prelude.{ℕ, ◌≡◌, ◌≢◌, ◌⊎◌, List, [], ◌∷◌, ◌++◌, Option, Some, None, Contains}
use Rattle.semantics.specs.Tree.{Variable, Expr, Literal, Constant, Object, Unary, Binary, Conditional, Exprs, no_exprs, more_exprs, Cond, NotZero, Compare, Not, LogicalAnd, LogicalOr, Source, Number, Truth, PrintPart, Characters, Decimal, Stmt, Assign, Update, If, IfElse, For, Block, Print, Items, no_items, mark, local, stmt}
use Rattle.semantics.specs.Meaning.State.{State}
use Rattle.semantics.specs.Meaning.Value.{values}
use Rattle.semantics.specs.Loops.Nest.{Loop, Vector, iterations, at_vector}

-- an access reads, or writes
pub data Mode : Type 0 where
  Reads Writes : Mode

-- an element access as the text has it: the array, its subscripts, and the body's own loops round it, from the outside
pub record Access : Type 0 where
  pub array : Variable
  pub subscripts : Exprs
  pub mode : Mode
  pub inner : List Loop

-- a variable without subscripts is no element
abbrev pub named : Variable → Exprs → Mode → List Loop → List Access
named x no_exprs mode inner = []
named x (more_exprs i is) mode inner = record { array = x; subscripts = more_exprs i is; mode = mode; inner = inner } ∷ []

-- the elements that an expression names, in order of place; subscripts are affine, and name none
abbrev mutual
  -- those of an arithmetic expression
  pub expr_accesses : List Loop → Expr → List Access
  expr_accesses inner (Literal n suffix) = []
  expr_accesses inner (Constant name n) = []
  expr_accesses inner (Object x is) = named x is Reads inner
  expr_accesses inner (Unary op a) = expr_accesses inner a
  expr_accesses inner (Binary op a b) = expr_accesses inner a ++ expr_accesses inner b
  expr_accesses inner (Conditional c a b) = cond_accesses inner c ++ expr_accesses inner a ++ expr_accesses inner b

  -- those of a condition
  pub cond_accesses : List Loop → Cond → List Access
  cond_accesses inner (NotZero a) = expr_accesses inner a
  cond_accesses inner (Compare op a b) = expr_accesses inner a ++ expr_accesses inner b
  cond_accesses inner (Not c) = cond_accesses inner c
  cond_accesses inner (LogicalAnd c d) = cond_accesses inner c ++ cond_accesses inner d
  cond_accesses inner (LogicalOr c d) = cond_accesses inner c ++ cond_accesses inner d

-- those of a right side
abbrev pub source_accesses : List Loop → Source → List Access
source_accesses inner (Number a) = expr_accesses inner a
source_accesses inner (Truth c) = cond_accesses inner c

-- those of an initialiser
abbrev pub start_accesses : List Loop → Option Source → List Access
start_accesses inner None = []
start_accesses inner (Some a) = source_accesses inner a

-- those of printf's arguments
abbrev pub part_accesses : List Loop → List PrintPart → List Access
part_accesses inner [] = []
part_accesses inner (Characters bs ∷ ps) = part_accesses inner ps
part_accesses inner (Decimal a ∷ ps) = expr_accesses inner a ++ part_accesses inner ps

abbrev mutual
  -- the accesses of a statement inside these loops; the target of an assignment stands first, and writes
  pub accesses : List Loop → Stmt → List Access
  accesses inner (Assign x is a) = named x is Writes inner ++ source_accesses inner a
  accesses inner (Update x is op a) = named x is Writes inner ++ expr_accesses inner a
  accesses inner (If c a) = cond_accesses inner c ++ accesses inner a
  accesses inner (IfElse c a b) = cond_accesses inner c ++ accesses inner a ++ accesses inner b
  accesses inner (For x name start test step body) =
      accesses (inner ++ record { variable = x; start = start; test = test; step = step } ∷ []) body
  accesses inner (Block items) = items_accesses inner items
  accesses inner (Print parts) = part_accesses inner parts

  -- those of a block's items, in order
  pub items_accesses : List Loop → Items → List Access
  items_accesses inner no_items = []
  items_accesses inner (mark line rest) = items_accesses inner rest
  items_accesses inner (local x name start rest) = start_accesses inner start ++ items_accesses inner rest
  items_accesses inner (stmt a rest) = accesses inner a ++ items_accesses inner rest

-- an element of an array
pub record Element : Type 0 where
  pub array : Variable
  pub indexes : List ℕ

-- an access names an element at some turn of its inner loops, where the body begins in this state; where an inner loop has no turn it names none
pub record Reaches (access : Access) (state : State) (element : Element) : Type 0 where
  pub turns : List Vector
  pub are : iterations access.inner state ≡ Some turns
  pub turn : Vector
  pub among : Contains turns turn
  pub array : element.array ≡ access.array
  pub indexes : values (at_vector access.inner turn state) access.subscripts ≡ Some element.indexes

-- an iteration touches an element; outer is the state round the loop
pub record Touches (loops : List Loop) (body : Stmt) (outer : State) (u : Vector) (element : Element) (mode : Mode) : Type 0 where
  pub access : Access
  pub there : Contains (accesses [] body) access
  pub reaches : Reaches access (at_vector loops u outer) element
  pub mode_is : mode ≡ access.mode

-- two iterations differ, and some element is touched by both and written by one
pub record Conflict (loops : List Loop) (body : Stmt) (outer : State) (u v : Vector) : Type 0 where
  pub differ : u ≢ v
  pub element : Element
  pub first : Mode
  pub second : Mode
  pub one_writes : (first ≡ Writes) ⊎ (second ≡ Writes)
  pub by_first : Touches loops body outer u element first
  pub by_second : Touches loops body outer v element second
