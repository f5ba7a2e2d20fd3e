-- A local is assigned before it is read, on every path.
use Rattle.std.specs.Prelude.{ℕ, Bool, true, false, ◌==◌, ◌&&◌, nat_lt, length, IsSome, if◌then◌else◌, List, [], ◌∷◌, ◌++◌, Option, Some, None, option_and_then}
use Rattle.semantics.specs.Tree.{Variable, Expr, Literal, Constant, Object, Unary, Binary, Conditional, Exprs, no_exprs, more_exprs, Cond, NotZero, Compare, Not, LogicalAnd, LogicalOr, Source, Number, Truth, Increment, Up, Down, Set, Change, PrintPart, Characters, Decimal, Stmt, Assign, Update, If, IfElse, For, Block, Print, Items, no_items, mark, local, stmt, Declaration, Kernel}

-- what may be read: each file-scope variable, and each local that is assigned (C11 6.7.9: an unassigned one is indeterminate)
abbrev pub DefinitelyAssigned : Type 0
DefinitelyAssigned = Variable → Bool

-- the locals in the private list of a directive line, by its number
abbrev pub Privates : Type 0
Privates = ℕ → List Variable

-- one variable is known, or is not
abbrev pub known_with : DefinitelyAssigned → Variable → Bool → DefinitelyAssigned
known_with k x b y = if y == x then b else k y

-- these are not known
abbrev pub without : DefinitelyAssigned → List Variable → DefinitelyAssigned
without k [] = k
without k (x ∷ xs) = without (known_with k x false) xs

-- every name in an expression counts as read, whatever guards it
abbrev mutual
  pub may_read : DefinitelyAssigned → Expr → Bool
  may_read k (Literal n suffix) = true
  may_read k (Constant name n) = true
  may_read k (Object x is) = k x && may_read_all k is
  may_read k (Unary op a) = may_read k a
  may_read k (Binary op a b) = may_read k a && may_read k b
  may_read k (Conditional c a b) = may_test k c && may_read k a && may_read k b

  -- of subscripts
  pub may_read_all : DefinitelyAssigned → Exprs → Bool
  may_read_all k no_exprs = true
  may_read_all k (more_exprs e es) = may_read k e && may_read_all k es

  -- of a condition
  pub may_test : DefinitelyAssigned → Cond → Bool
  may_test k (NotZero e) = may_read k e
  may_test k (Compare op a b) = may_read k a && may_read k b
  may_test k (Not c) = may_test k c
  may_test k (LogicalAnd c d) = may_test k c && may_test k d
  may_test k (LogicalOr c d) = may_test k c && may_test k d

-- of a right side
abbrev pub may_take : DefinitelyAssigned → Source → Bool
may_take k (Number e) = may_read k e
may_take k (Truth c) = may_test k c

-- of a loop's step
abbrev pub may_step : DefinitelyAssigned → Increment → Bool
may_step k (Up x) = k x
may_step k (Down x) = k x
may_step k (Set x e) = may_take k e
may_step k (Change x op e) = k x && may_read k e

-- of printf's arguments
abbrev pub may_print : DefinitelyAssigned → List PrintPart → Bool
may_print k [] = true
may_print k (Characters bs ∷ ps) = may_print k ps
may_print k (Decimal e ∷ ps) = may_read k e && may_print k ps

-- what is known stays, where nothing wrong is read
abbrev pub where_ok : Bool → DefinitelyAssigned → Option DefinitelyAssigned
where_ok b k = if b then Some k else None

-- known after both branches
abbrev pub after_both : Option DefinitelyAssigned → Option DefinitelyAssigned → Option DefinitelyAssigned
after_both (Some a) (Some b) = Some (λ y. a y && b y)
after_both (Some a) None = None
after_both None b = None

abbrev mutual
  -- the private locals of the constructs in a statement
  pub privates_in : Privates → Stmt → List Variable
  privates_in P (Assign x is e) = []
  privates_in P (Update x is op e) = []
  privates_in P (If c a) = privates_in P a
  privates_in P (IfElse c a b) = privates_in P a ++ privates_in P b
  privates_in P (For x name start test step body) = privates_in P body
  privates_in P (Block items) = privates_among P items
  privates_in P (Print parts) = []

  -- those of a block's items
  pub privates_among : Privates → Items → List Variable
  privates_among P no_items = []
  privates_among P (mark line rest) = P line ++ privates_among P rest
  privates_among P (local x name start rest) = privates_among P rest
  privates_among P (stmt s rest) = privates_in P s ++ privates_among P rest

-- a local is known from its initialiser on (C11 6.7.9)
abbrev pub declared_known : DefinitelyAssigned → Variable → Option Source → Option DefinitelyAssigned
declared_known k x None = Some (known_with k x false)
declared_known k x (Some e) = where_ok (may_take k e) (known_with k x true)

-- a loop's step comes behind its body
abbrev pub if_stepped : (DefinitelyAssigned → Bool) → Option DefinitelyAssigned → Option DefinitelyAssigned → Option DefinitelyAssigned
if_stepped step_ok None after = None
if_stepped step_ok (Some k) after = if step_ok k then after else None

-- a loop: what is known after it is what was before; the private locals of constructs in it count as unassigned from the start of its body on, and after it
abbrev pub loop_known : DefinitelyAssigned → Variable → List Variable → Bool → (DefinitelyAssigned → Bool) → (DefinitelyAssigned → Bool) → (DefinitelyAssigned → Option DefinitelyAssigned) → Option DefinitelyAssigned
loop_known k x privates start_ok test_ok step_ok body =
    let inside = without (known_with k x true) privates in
    if start_ok && test_ok inside then if_stepped step_ok (body inside) (Some (without k privates)) else None

abbrev mutual
  -- what is known after a statement, if nothing that is not known is read in it
  pub definite : Privates → Stmt → DefinitelyAssigned → Option DefinitelyAssigned
  definite P (Assign x is e) k = where_ok (may_read_all k is && may_take k e) (known_with k x true)
  definite P (Update x is op e) k = where_ok (k x && may_read_all k is && may_read k e) k
  definite P (If c a) k = if may_test k c then after_both (definite P a k) (Some k) else None
  definite P (IfElse c a b) k = if may_test k c then after_both (definite P a k) (definite P b k) else None
  definite P (For x name start test step body) k =
      loop_known k x (privates_in P body) (may_take k start) (λ inside. may_test inside test) (λ after. may_step after step) (definite P body)
  definite P (Block items) k = definite_items P [] items k
  definite P (Print parts) k = where_ok (may_print k parts) k

  -- pending: the private locals of the directive line before; its construct is entered with what was known, and they are unassigned after it
  pub definite_items : Privates → List Variable → Items → DefinitelyAssigned → Option DefinitelyAssigned
  definite_items P pending no_items k = Some k
  definite_items P pending (mark line rest) k = definite_items P (P line) rest k
  definite_items P pending (local x name start rest) k = option_and_then (definite_items P [] rest) (declared_known k x start)
  definite_items P pending (stmt s rest) k =
      option_and_then (λ after. definite_items P [] rest (without after pending)) (definite P s k)

-- file-scope variables have the first numbers, and always hold a value
abbrev pub known_at_start : List Declaration → DefinitelyAssigned
known_at_start ds y = nat_lt y (length ds)

-- no local of a text is read before it is assigned
abbrev pub IsDefinite : Privates → Kernel → Type 0
IsDefinite P k = IsSome (definite_items P [] k.body (known_at_start k.variables))

-- no local is in a private list
abbrev pub no_privates : Privates
no_privates line = []
