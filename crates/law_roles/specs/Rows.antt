-- Worked rows of updates: what counts as one, and what is left of it.
use Rattle.std.specs.Prelude.{true, false, ◌≡◌, ◌==◌, if◌then◌else◌, [], ◌∷◌, Some, None}
use Rattle.semantics.specs.Tree.{Expr, Literal, Bare, Object, Binary, Plus, Times, no_exprs, more_exprs, Compare, Less, NotZero, LogicalAnd, Number, Truth, Up, Stmt, Assign, Update, If, For, Block, no_items, local, stmt}
use Rattle.semantics.specs.Meaning.Runs.{Effect}
use Rattle.semantics.specs.Meaning.State.{State, Outside, no_indexes}
use Rattle.semantics.specs.Loops.Piece.{Roles}
use Rattle.semantics.specs.Loops.Operator.{Sum, Product, AndAlso, Min}
use Rattle.law_roles.specs.Updates.{reduces, operands}
use Rattle.law_roles.specs.Sharing.{KeepsRoles, last_filled}

-- s, a[i] and i
abbrev pub total : Expr
total = Object 0 no_exprs

abbrev pub element : Expr
element = Object 1 (more_exprs (Object 2 no_exprs) no_exprs)

abbrev pub index : Expr
index = Object 2 no_exprs

-- s = e
abbrev pub put : Expr → Stmt
put e = Assign 0 no_exprs (Number e)

-- s += 1; t = i; where t is variable 3
abbrev pub summing : Stmt
summing = Block (stmt (Update 0 no_exprs Plus (Literal 1 Bare)) (stmt (Assign 3 no_exprs (Number index)) no_items))

-- for (i = 0; i < 2; i++)
abbrev pub twice : Stmt
twice = For 2 [] (Number (Literal 0 Bare)) (Compare Less index (Literal 2 Bare)) (Up 2) summing

-- lastprivate(t) reduction(+: s)
abbrev pub summing_roles : Roles
summing_roles = record { privates = []; firsts = []; lasts = 3 ∷ []; conditionals = []; reductions = (0, Sum) ∷ [] }

-- s and t stand at file scope, and hold 5 and 7
abbrev pub before_summing : State
before_summing = record { cells = λ x is. if no_indexes is then (if x == 0 then Some 5 else (if x == 3 then Some 7 else None)) else None; locals = λ x. Outside }

-- s is variable 0, a variable 1, i variable 2
pub record UpdateRows : Type 0 where
  -- s += a[i];
  pub compound : reduces ((0, Sum) ∷ []) (Update 0 no_exprs Plus element) ≡ true
  -- s = s * a[i];
  pub spelled : reduces ((0, Product) ∷ []) (put (Binary Times total element)) ≡ true
  -- s = s && a[i] < 9;
  pub logical : reduces ((0, AndAlso) ∷ []) (Assign 0 no_exprs (Truth (LogicalAnd (NotZero total) (Compare Less element (Literal 9 Bare))))) ≡ true
  -- if (a[i] < s) { s = a[i]; }
  pub least : reduces ((0, Min) ∷ []) (If (Compare Less element total) (Block (stmt (put element) no_items))) ≡ true
  -- s *= a[i]; where s is a sum
  pub other_operator : reduces ((0, Sum) ∷ []) (Update 0 no_exprs Times element) ≡ false
  -- s = a[i] + s;
  pub other_side : reduces ((0, Sum) ∷ []) (put (Binary Plus element total)) ≡ false
  -- s += s;
  pub itself : reduces ((0, Sum) ∷ []) (Update 0 no_exprs Plus total) ≡ false
  -- a[i] = s;
  pub seen : reduces ((0, Sum) ∷ []) (Assign 1 (more_exprs index no_exprs) (Number total)) ≡ false
  -- if (a[i] < s) s = i;
  pub other_tree : reduces ((0, Min) ∷ []) (If (Compare Less element total) (put index)) ≡ false
  -- { uint64_t s; }
  pub declared : reduces ((0, Sum) ∷ []) (Block (local 0 [] None no_items)) ≡ false
  -- if (a[i] < s) { s = a[i]; } leaves s = a[i];
  pub left_of_choice : operands ((0, Min) ∷ []) (If (Compare Less element total) (Block (stmt (put element) no_items))) ≡ put element
  -- the last of three chunks that has an iteration is the second
  pub filled : (e f g : Effect) → last_filled (((0 ∷ []) ∷ []) ∷ ((1 ∷ []) ∷ []) ∷ [] ∷ []) (e ∷ f ∷ g ∷ []) ≡ Some f
  -- a loop that keeps its roles
  pub kept : KeepsRoles summing_roles twice summing before_summing
