-- Statements that use some variables in updates alone, each with its own operator. (OpenMP 5.2, 5.5; C11 6.5.16.2)
use Rattle.std.specs.Prelude.{ℕ, Bool, true, false, ◌==◌, ◌&&◌, ◌||◌, if◌then◌else◌, is_none, List, [], ◌∷◌, Option, Some, None}
use Rattle.semantics.specs.Tree.{Variable, Suffix, Bare, Ull, UnaryOp, Negate, Complement, BinaryOp, Plus, Minus, Times, Divide, Remainder, BitAnd, BitOr, BitXor, ShiftLeft, ShiftRight, CompareOp, Less, LessEqual, Greater, GreaterEqual, Equal, NotEqual, Expr, Literal, Constant, Object, Unary, Binary, Conditional, Exprs, no_exprs, more_exprs, Cond, NotZero, Compare, Not, LogicalAnd, LogicalOr, Source, Number, Truth, Stmt, Assign, Update, If, IfElse, For, Block, Print, Items, no_items, mark, local, stmt}
use Rattle.semantics.specs.Meaning.State.{same_indexes}
use Rattle.semantics.specs.Meaning.Agrees.{names_expr, names_exprs, names_cond, names_source, names_start, names_step, names_parts}
use Rattle.semantics.specs.Loops.Operator.{ReduceOp, Sum, Product, And, Or, Xor, AndAlso, OrElse, Max, Min}

-- ---- the same tree

-- the number of a literal's suffix
abbrev pub suffix_number : Suffix → ℕ
suffix_number Bare = 0
suffix_number Ull = 1

-- that of an operator
abbrev pub unary_number : UnaryOp → ℕ
unary_number Negate = 0
unary_number Complement = 1

-- that of an operator between two
abbrev pub binary_number : BinaryOp → ℕ
binary_number Plus = 0
binary_number Minus = 1
binary_number Times = 2
binary_number Divide = 3
binary_number Remainder = 4
binary_number BitAnd = 5
binary_number BitOr = 6
binary_number BitXor = 7
binary_number ShiftLeft = 8
binary_number ShiftRight = 9

-- that of a comparison
abbrev pub compare_number : CompareOp → ℕ
compare_number Less = 0
compare_number LessEqual = 1
compare_number Greater = 2
compare_number GreaterEqual = 3
compare_number Equal = 4
compare_number NotEqual = 5

abbrev mutual
  -- two expressions are the same tree
  pub same_expr : Expr → Expr → Bool
  same_expr (Literal m suffix) (Literal n other) = (m == n) && (suffix_number suffix == suffix_number other)
  same_expr (Constant name m) (Constant other n) = same_indexes name other && (m == n)
  same_expr (Object x is) (Object y js) = (x == y) && same_exprs is js
  same_expr (Unary op a) (Unary other b) = (unary_number op == unary_number other) && same_expr a b
  same_expr (Binary op a b) (Binary other c d) = (binary_number op == binary_number other) && same_expr a c && same_expr b d
  same_expr (Conditional p a b) (Conditional q c d) = same_cond p q && same_expr a c && same_expr b d
  same_expr _ _ = false

  -- subscripts
  pub same_exprs : Exprs → Exprs → Bool
  same_exprs no_exprs no_exprs = true
  same_exprs (more_exprs a is) (more_exprs b js) = same_expr a b && same_exprs is js
  same_exprs _ _ = false

  -- conditions
  pub same_cond : Cond → Cond → Bool
  same_cond (NotZero a) (NotZero b) = same_expr a b
  same_cond (Compare op a b) (Compare other c d) = (compare_number op == compare_number other) && same_expr a c && same_expr b d
  same_cond (Not p) (Not q) = same_cond p q
  same_cond (LogicalAnd p q) (LogicalAnd c d) = same_cond p c && same_cond q d
  same_cond (LogicalOr p q) (LogicalOr c d) = same_cond p c && same_cond q d
  same_cond _ _ = false

-- ---- reduction variables

-- the operator of a variable, if it is reduced (OpenMP 5.2, 5.5.8)
abbrev pub operator_of : List (Variable × ReduceOp) → Variable → Option ReduceOp
operator_of [] x = None
operator_of (r ∷ rs) x = if r.0 == x then Some r.1 else operator_of rs x

-- it is no reduction variable
abbrev pub is_plain : List (Variable × ReduceOp) → Variable → Bool
is_plain rs x = is_none (operator_of rs x)

-- s += e, s *= e, s &= e, s |= e, s ^= e
abbrev pub combines : ReduceOp → BinaryOp → Bool
combines Sum Plus = true
combines Product Times = true
combines And BitAnd = true
combines Or BitOr = true
combines Xor BitXor = true
combines _ _ = false

-- s = s && c
abbrev pub is_and_also : ReduceOp → Bool
is_and_also AndAlso = true
is_and_also _ = false

-- s = s || c
abbrev pub is_or_else : ReduceOp → Bool
is_or_else OrElse = true
is_or_else _ = false

-- if (e < s) s = e; and if (e > s) s = e;
abbrev pub selects : ReduceOp → CompareOp → Bool
selects Min Less = true
selects Max Greater = true
selects _ _ = false

-- what an assignment to s combines with it: e of s = s op e, and c of s = s && c and s = s || c
abbrev pub operand : ReduceOp → Variable → Source → Option Source
operand op x (Number (Binary by (Object y no_exprs) e)) = if combines op by && (y == x) then Some (Number e) else None
operand op x (Truth (LogicalAnd (NotZero (Object y no_exprs)) c)) = if is_and_also op && (y == x) then Some (Truth c) else None
operand op x (Truth (LogicalOr (NotZero (Object y no_exprs)) c)) = if is_or_else op && (y == x) then Some (Truth c) else None
operand op x _ = None

-- braces round one statement count for nothing (C11 6.8.2)
abbrev pub sole : Stmt → Stmt
sole (Block (stmt a no_items)) = sole a
sole a = a

-- s = e, with this e
abbrev pub assigns : Variable → Expr → Stmt → Bool
assigns x e (Assign y no_exprs (Number d)) = (y == x) && same_expr e d
assigns x e _ = false

-- s is the greatest or least by its clause, and the comparison says which e it takes
abbrev pub is_selected : Option ReduceOp → CompareOp → Bool
is_selected None by = false
is_selected (Some op) by = selects op by

-- if (e < s) s = e; of min, and if (e > s) s = e; of max
abbrev pub is_choice : List (Variable × ReduceOp) → Cond → Stmt → Bool
is_choice rs (Compare by e (Object x no_exprs)) a = is_selected (operator_of rs x) by && assigns x e (sole a) && names_expr (is_plain rs) e
is_choice rs _ a = false

-- an operand that names no reduction variable
abbrev pub is_plain_operand : List (Variable × ReduceOp) → Option Source → Bool
is_plain_operand rs None = false
is_plain_operand rs (Some e) = names_source (is_plain rs) e

-- an assignment to a scalar: of a reduction variable an update
abbrev pub updates : List (Variable × ReduceOp) → Option ReduceOp → Variable → Source → Bool
updates rs None x e = names_source (is_plain rs) e
updates rs (Some op) x e = is_plain_operand rs (operand op x e)

-- the same of op=
abbrev pub updates_by : List (Variable × ReduceOp) → Option ReduceOp → BinaryOp → Expr → Bool
updates_by rs None by e = names_expr (is_plain rs) e
updates_by rs (Some op) by e = combines op by && names_expr (is_plain rs) e

abbrev mutual
  -- a statement uses reduction variables in updates alone, each with its own operator, and declares none of them
  pub reduces : List (Variable × ReduceOp) → Stmt → Bool
  reduces rs (Assign x no_exprs e) = updates rs (operator_of rs x) x e
  reduces rs (Assign x (more_exprs i is) e) = is_plain rs x && names_exprs (is_plain rs) (more_exprs i is) && names_source (is_plain rs) e
  reduces rs (Update x no_exprs by e) = updates_by rs (operator_of rs x) by e
  reduces rs (Update x (more_exprs i is) by e) = is_plain rs x && names_exprs (is_plain rs) (more_exprs i is) && names_expr (is_plain rs) e
  reduces rs (If c a) = is_choice rs c a || (names_cond (is_plain rs) c && reduces rs a)
  reduces rs (IfElse c a b) = names_cond (is_plain rs) c && reduces rs a && reduces rs b
  reduces rs (For x name start test step body) =
      is_plain rs x && names_source (is_plain rs) start && names_cond (is_plain rs) test && names_step (is_plain rs) step && reduces rs body
  reduces rs (Block items) = all_reduce rs items
  reduces rs (Print parts) = names_parts (is_plain rs) parts

  -- so do a block's items
  pub all_reduce : List (Variable × ReduceOp) → Items → Bool
  all_reduce rs no_items = true
  all_reduce rs (mark line rest) = all_reduce rs rest
  all_reduce rs (local x name start rest) = is_plain rs x && names_start (is_plain rs) start && all_reduce rs rest
  all_reduce rs (stmt a rest) = reduces rs a && all_reduce rs rest

-- ---- operands alone

-- a source, or in its place what is there
abbrev pub or_else : Source → Option Source → Source
or_else e None = e
or_else e (Some d) = d

-- an update's operand, and any other source itself
abbrev pub operand_of : Option ReduceOp → Variable → Source → Source
operand_of None x e = e
operand_of (Some op) x e = or_else e (operand op x e)

-- s = e in place of s op= e
abbrev pub operand_by : Option ReduceOp → Variable → BinaryOp → Expr → Stmt
operand_by None x by e = Update x no_exprs by e
operand_by (Some op) x by e = Assign x no_exprs (Number e)

abbrev mutual
  -- the statement with each update in it replaced by an assignment of its operand
  pub operands : List (Variable × ReduceOp) → Stmt → Stmt
  operands rs (Assign x no_exprs e) = Assign x no_exprs (operand_of (operator_of rs x) x e)
  operands rs (Assign x (more_exprs i is) e) = Assign x (more_exprs i is) e
  operands rs (Update x no_exprs by e) = operand_by (operator_of rs x) x by e
  operands rs (Update x (more_exprs i is) by e) = Update x (more_exprs i is) by e
  operands rs (If c a) = if is_choice rs c a then sole a else If c (operands rs a)
  operands rs (IfElse c a b) = IfElse c (operands rs a) (operands rs b)
  operands rs (For x name start test step body) = For x name start test step (operands rs body)
  operands rs (Block items) = Block (all_operands rs items)
  operands rs (Print parts) = Print parts

  -- a block's items
  pub all_operands : List (Variable × ReduceOp) → Items → Items
  all_operands rs no_items = no_items
  all_operands rs (mark line rest) = mark line (all_operands rs rest)
  all_operands rs (local x name start rest) = local x name start (all_operands rs rest)
  all_operands rs (stmt a rest) = stmt (operands rs a) (all_operands rs rest)
