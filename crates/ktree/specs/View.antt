-- What the code's tree stands for: the tree of the definitions, without places and addresses.
use Rattle.std.specs.Prelude.{List, [], ◌∷◌, Option, Some, None, map, string_bytes}
use Rattle.semantics.specs.Tree
use Rattle.ktree.specs.declared.expression.Suffix.{Suffix}
use Rattle.ktree.specs.declared.expression.Suffix.TheVariants.{Bare, Ull}
use Rattle.ktree.specs.declared.expression.UnaryOp.{UnaryOp}
use Rattle.ktree.specs.declared.expression.UnaryOp.TheVariants.{Negate, Complement}
use Rattle.ktree.specs.declared.expression.BinaryOp.{BinaryOp}
use Rattle.ktree.specs.declared.expression.BinaryOp.TheVariants.{Plus, Minus, Times, Divide, Remainder, BitAnd, BitOr, BitXor, ShiftLeft, ShiftRight}
use Rattle.ktree.specs.declared.expression.CompareOp.{CompareOp}
use Rattle.ktree.specs.declared.expression.CompareOp.TheVariants.{Less, LessEqual, Greater, GreaterEqual, Equal, NotEqual}
use Rattle.ktree.specs.declared.expression.Expr.{Expr, Literal, Constant, Object', Unary', Binary', Conditional', Row_of-Expr, end_of-Expr, more_of-Expr}
use Rattle.ktree.specs.declared.expression.Cond.{Cond, NotZero', Compare', Not', LogicalAnd', LogicalOr'}
use Rattle.ktree.specs.declared.statement.Source.{Source}
use Rattle.ktree.specs.declared.statement.Source.TheVariants.{Number, Truth}
use Rattle.ktree.specs.declared.statement.Increment.{Increment}
use Rattle.ktree.specs.declared.statement.Increment.TheVariants.{Up, Down, Set, Change}
use Rattle.ktree.specs.declared.statement.PrintPart.{PrintPart}
use Rattle.ktree.specs.declared.statement.PrintPart.TheVariants.{Characters, Decimal}
use Rattle.ktree.specs.declared.statement.Declaration.{Declaration}
use Rattle.ktree.specs.declared.statement.Kernel.{Kernel}
use Rattle.ktree.specs.declared.statement.Stmt.{Stmt, Assign, Update, If', For', Block', Print, Held-Stmt-If-2, None', Some', Row_of-Item, end_of-Item, more_of-Item}
use Rattle.ktree.specs.declared.statement.Item.{Item, Directive, Local, Statement'}

-- a literal's suffix
abbrev pub suffix_of : Suffix → Tree.Suffix
suffix_of Bare = Tree.Bare
suffix_of Ull = Tree.Ull

-- a unary operator
abbrev pub unary_of : UnaryOp → Tree.UnaryOp
unary_of Negate = Tree.Negate
unary_of Complement = Tree.Complement

-- a binary operator
abbrev pub binary_of : BinaryOp → Tree.BinaryOp
binary_of Plus = Tree.Plus
binary_of Minus = Tree.Minus
binary_of Times = Tree.Times
binary_of Divide = Tree.Divide
binary_of Remainder = Tree.Remainder
binary_of BitAnd = Tree.BitAnd
binary_of BitOr = Tree.BitOr
binary_of BitXor = Tree.BitXor
binary_of ShiftLeft = Tree.ShiftLeft
binary_of ShiftRight = Tree.ShiftRight

-- a comparison
abbrev pub compare_of : CompareOp → Tree.CompareOp
compare_of Less = Tree.Less
compare_of LessEqual = Tree.LessEqual
compare_of Greater = Tree.Greater
compare_of GreaterEqual = Tree.GreaterEqual
compare_of Equal = Tree.Equal
compare_of NotEqual = Tree.NotEqual

abbrev mutual
  -- an arithmetic expression
  pub expr_of : Expr → Tree.Expr
  expr_of (Literal n suffix) = Tree.Literal n (suffix_of suffix)
  expr_of (Constant name n) = Tree.Constant (string_bytes name) n
  expr_of (Object' x shape is mention) = Tree.Object x.0 (row_of is)
  expr_of (Unary' op p a) = Tree.Unary (unary_of op) (expr_of a)
  expr_of (Binary' op p a q b) = Tree.Binary (binary_of op) (expr_of a) (expr_of b)
  expr_of (Conditional' p c q a r b) = Tree.Conditional (cond_of c) (expr_of a) (expr_of b)

  -- subscripts, from the left
  pub row_of : {m : _} → Row_of-Expr m → Tree.Exprs
  row_of end_of-Expr = Tree.no_exprs
  row_of (more_of-Expr e rest) = Tree.more_exprs (expr_of e) (row_of rest)

  -- a condition
  pub cond_of : Cond → Tree.Cond
  cond_of (NotZero' p e) = Tree.NotZero (expr_of e)
  cond_of (Compare' op p a q b place) = Tree.Compare (compare_of op) (expr_of a) (expr_of b)
  cond_of (Not' p c) = Tree.Not (cond_of c)
  cond_of (LogicalAnd' p c q d) = Tree.LogicalAnd (cond_of c) (cond_of d)
  cond_of (LogicalOr' p c q d) = Tree.LogicalOr (cond_of c) (cond_of d)

-- a list of subscripts
abbrev pub exprs_of : List Expr → Tree.Exprs
exprs_of [] = Tree.no_exprs
exprs_of (e ∷ es) = Tree.more_exprs (expr_of e) (exprs_of es)

-- a right side
abbrev pub source_of : Source → Tree.Source
source_of (Number e) = Tree.Number (expr_of e)
source_of (Truth c) = Tree.Truth (cond_of c)

-- a loop's step
abbrev pub increment_of : Increment → Tree.Increment
increment_of (Up x) = Tree.Up x.0
increment_of (Down x) = Tree.Down x.0
increment_of (Set x e) = Tree.Set x.0 (source_of e)
increment_of (Change x op e) = Tree.Change x.0 (binary_of op) (expr_of e)

-- what printf writes
abbrev pub part_of : PrintPart → Tree.PrintPart
part_of (Characters bs) = Tree.Characters bs.items
part_of (Decimal e) = Tree.Decimal (expr_of e)

-- an initialiser, if there is one
abbrev pub start_of : Option Source → Option Tree.Source
start_of None = None
start_of (Some e) = Some (source_of e)

-- an `if`, with or without `else`
abbrev pub if_of : Tree.Cond → Tree.Stmt → Option Tree.Stmt → Tree.Stmt
if_of c a None = Tree.If c a
if_of c a (Some b) = Tree.IfElse c a b

abbrev mutual
  -- a statement
  pub stmt_of : Stmt → Tree.Stmt
  stmt_of (Assign target e) = Tree.Assign target.variable.0 (exprs_of target.subscripts.items) (source_of e)
  stmt_of (Update target op e) = Tree.Update target.variable.0 (exprs_of target.subscripts.items) (binary_of op) (expr_of e)
  stmt_of (If' c p a b) = if_of (cond_of c) (stmt_of a) (else_of b)
  stmt_of (For' head p body) =
      Tree.For head.variable.0 (string_bytes head.name) (source_of head.start) (cond_of head.test) (increment_of head.step) (stmt_of body)
  stmt_of (Block' shape items) = Tree.Block (items_row_of items)
  stmt_of (Print parts place) = Tree.Print (map part_of parts.items)

  -- what stands behind `else`
  pub else_of : Held-Stmt-If-2 → Option Tree.Stmt
  else_of None' = None
  else_of (Some' p b) = Some (stmt_of b)

  -- an item before others
  pub with_item : Item → Tree.Items → Tree.Items
  with_item (Directive place) rest = Tree.mark place.line rest
  with_item (Local l) rest = Tree.local l.variable.0 (string_bytes l.name) (start_of l.start) rest
  with_item (Statement' p s) rest = Tree.stmt (stmt_of s) rest

  -- the items of a block
  pub items_row_of : {m : _} → Row_of-Item m → Tree.Items
  items_row_of end_of-Item = Tree.no_items
  items_row_of (more_of-Item i rest) = with_item i (items_row_of rest)

-- a block's items
abbrev pub items_of : List Item → Tree.Items
items_of [] = Tree.no_items
items_of (i ∷ is) = with_item i (items_of is)

-- a file-scope variable
abbrev pub declaration_of : Declaration → Tree.Declaration
declaration_of d = record { name = string_bytes d.name; lengths = d.lengths.items }

-- a text's tree
abbrev pub kernel_of : Kernel → Tree.Kernel
kernel_of k = record { constants = map (λ c. (string_bytes c.name, c.value)) k.constants.items; variables = map declaration_of k.variables.items; body = items_of k.body.items }
