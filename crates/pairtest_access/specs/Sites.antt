-- The element accesses of a body, each inside the loops round it, in order of place. (C11 6.5.2.1, 6.5.16; OpenMP 5.2, 4.4.1)
use Rattle.std.specs.Prelude.{◌≡◌, List, [], ◌∷◌, ◌++◌, Option, Some, None}
use Rattle.semantics.specs.Tree.{Variable, Expr, Literal, Constant, Object, Unary, Binary, Conditional, Exprs, no_exprs, more_exprs, Cond, NotZero, Compare, Not, LogicalAnd, LogicalOr, Source, Number, Truth, Increment, PrintPart, Characters, Decimal, Stmt, Assign, Update, If, IfElse, For, Block, Print, Items, no_items, mark, local, stmt}
use Rattle.affine.specs.declared.interval.Interval.{Interval}
use Rattle.nest_loop.specs.Loops.{IsLoop, inside}
use Rattle.pairtest_counter.specs.declared.level.EnclosingLoop.{EnclosingLoop}
use Rattle.pairtest_counter.specs.Levels.{Nesting, AreLevels}
use Rattle.pairtest.specs.declared.access.Mode.{Mode}
use Rattle.pairtest.specs.declared.access.Mode.TheVariants.{Reads, Writes}

-- an element access of the text: the loops round it, what it does, the array, and its subscripts
pub record Site : Type 0 where
  pub round : Nesting
  pub mode : Mode
  pub array : Variable
  pub subscripts : Exprs

-- a variable without subscripts is no element
abbrev pub named : Nesting → Mode → Variable → Exprs → List Site
named n mode x no_exprs = []
named n mode x (more_exprs e es) = record { round = n; mode = mode; array = x; subscripts = more_exprs e es } ∷ []

-- the elements that an expression reads, in order of place
abbrev mutual
  -- those of an arithmetic expression
  pub expr_sites : Nesting → Expr → List Site
  expr_sites n (Literal value suffix) = []
  expr_sites n (Constant name value) = []
  expr_sites n (Object x es) = named n Reads x es
  expr_sites n (Unary op a) = expr_sites n a
  expr_sites n (Binary op a b) = expr_sites n a ++ expr_sites n b
  expr_sites n (Conditional c a b) = cond_sites n c ++ (expr_sites n a ++ expr_sites n b)

  -- those of a condition
  pub cond_sites : Nesting → Cond → List Site
  cond_sites n (NotZero a) = expr_sites n a
  cond_sites n (Compare op a b) = expr_sites n a ++ expr_sites n b
  cond_sites n (Not c) = cond_sites n c
  cond_sites n (LogicalAnd c d) = cond_sites n c ++ cond_sites n d
  cond_sites n (LogicalOr c d) = cond_sites n c ++ cond_sites n d

-- those of a right side
abbrev pub source_sites : Nesting → Source → List Site
source_sites n (Number a) = expr_sites n a
source_sites n (Truth c) = cond_sites n c

-- those of an initialiser
abbrev pub start_sites : Nesting → Option Source → List Site
start_sites n None = []
start_sites n (Some a) = source_sites n a

-- those of one of printf's arguments
abbrev pub printed_sites : Nesting → PrintPart → List Site
printed_sites n (Characters bs) = []
printed_sites n (Decimal a) = expr_sites n a

-- those of all of them
abbrev pub part_sites : Nesting → List PrintPart → List Site
part_sites n [] = []
part_sites n (p ∷ ps) = printed_sites n p ++ part_sites n ps

-- a loop of the text is entered inside others, and they are together as loops inside each other are
pub record IsInside (before : Nesting) (x : Variable) (start : Source) (test : Cond) (step : Increment) (body : Stmt) (after : Nesting) : Type 0 where
  pub level : EnclosingLoop
  pub numbers : Interval
  pub is : IsLoop before.box x start test step body level.canonical numbers
  pub now : after ≡ record { box = inside before.box x numbers; levels = level ∷ before.levels }
  pub sound : AreLevels after.box after.levels

abbrev mutual
  -- these are the accesses of a statement, in order of place; the target of an assignment stands first, and writes
  pub Sites : Nesting → Stmt → List Site → Type 0
  Sites n (Assign x es e) ss = ss ≡ named n Writes x es ++ source_sites n e
  Sites n (Update x es op e) ss = ss ≡ named n Writes x es ++ expr_sites n e
  Sites n (If c a) ss = (ts : List Site) × Sites n a ts × (ss ≡ cond_sites n c ++ ts)
  Sites n (IfElse c a b) ss = (ts us : List Site) × Sites n a ts × Sites n b us × (ss ≡ cond_sites n c ++ (ts ++ us))
  Sites n (For x name start test step body) ss = (inner : Nesting) × IsInside n x start test step body inner × Sites inner body ss
  Sites n (Block items) ss = ItemsSites n items ss
  Sites n (Print parts) ss = ss ≡ part_sites n parts

  -- those of a block's items
  pub ItemsSites : Nesting → Items → List Site → Type 0
  ItemsSites n no_items ss = ss ≡ []
  ItemsSites n (mark line rest) ss = ItemsSites n rest ss
  ItemsSites n (local x name start rest) ss = (ts : List Site) × ItemsSites n rest ts × (ss ≡ start_sites n start ++ ts)
  ItemsSites n (stmt s rest) ss = (ts us : List Site) × Sites n s ts × ItemsSites n rest us × (ss ≡ ts ++ us)
