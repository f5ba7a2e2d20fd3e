-- What is wrong with a body whose accesses are not found. (OpenMP 5.2, 4.4.1)
use Rattle.std.specs.Prelude.{◌≡◌, ◌⊎◌, List, [], ◌∷◌, ◌++◌, Some, None}
use Rattle.semantics.specs.Tree.{Expr, Exprs, Stmt, Assign, Update, If, IfElse, For, Block, Print, Items, no_items, mark, local, stmt}
use Rattle.ktree.specs.declared.place.Place.{Place}
use Rattle.affine.specs.Affine.{Affine}
use Rattle.affine.specs.declared.interval.Side.{Side}
use Rattle.affine_expr.specs.Forms.{form_of}
use Rattle.pairtest_counter.specs.Levels.{Nesting}
use Rattle.affine_expr.specs.declared.faults.Fault.{Fault}
use Rattle.affine_expr.specs.declared.faults.Fault.TheVariants.{OutOfMemory, Limit}
use Rattle.pairtest.specs.declared.access.Mode.TheVariants.{Writes}
use Rattle.pairtest.specs.declared.access.Subscript.{Subscript}
use Rattle.pairtest_access.specs.Sites.{Site, named, expr_sites, cond_sites, source_sites, start_sites, part_sites, IsInside}
use Rattle.pairtest_access.specs.Found.{AreEach, IsSubscript}

-- some of these subscripts has no form in the variables of a box
abbrev pub AreNotAffine : List Side → Exprs → Type 0
AreNotAffine box es = (fs : List Affine) → AreEach (λ e f. form_of box e ≡ Some f) es fs → ⊥

-- so it is with some access
abbrev pub Lacks : List Site → Type 0
Lacks [] = ⊥
Lacks (s ∷ ss) = AreNotAffine s.round.box s.subscripts ⊎ Lacks ss

abbrev mutual
  -- somewhere in a statement stands an access with a subscript that is not affine
  pub IsStuck : Nesting → Stmt → Type 0
  IsStuck n (Assign x es e) = Lacks (named n Writes x es ++ source_sites n e)
  IsStuck n (Update x es op e) = Lacks (named n Writes x es ++ expr_sites n e)
  IsStuck n (If c a) = Lacks (cond_sites n c) ⊎ IsStuck n a
  IsStuck n (IfElse c a b) = Lacks (cond_sites n c) ⊎ (IsStuck n a ⊎ IsStuck n b)
  IsStuck n (For x name start test step body) = (inner : Nesting) × IsInside n x start test step body inner × IsStuck inner body
  IsStuck n (Block items) = AreStuck n items
  IsStuck n (Print parts) = Lacks (part_sites n parts)

  -- somewhere in a block's items
  pub AreStuck : Nesting → Items → Type 0
  AreStuck n no_items = ⊥
  AreStuck n (mark line rest) = AreStuck n rest
  AreStuck n (local x name start rest) = Lacks (start_sites n start) ⊎ AreStuck n rest
  AreStuck n (stmt s rest) = IsStuck n s ⊎ AreStuck n rest

-- a fault tells that a number passes the limits
abbrev pub IsLimit : Fault → Type 0
IsLimit fault = (place : Place) × (fault ≡ Limit place)

-- a subscript has no form in the variables, or none in the counters within the limits, which is told
abbrev pub SubscriptFails : Nesting → Expr → Fault → Type 0
SubscriptFails n e fault = (form_of n.box e ≡ None) ⊎ (IsLimit fault × ((t : Subscript) → IsSubscript n e t → ⊥))

-- so it is with some of these
abbrev pub SubscriptsFail : Nesting → Exprs → Fault → Type 0
SubscriptsFail n es fault = AreNotAffine n.box es ⊎ (IsLimit fault × ((ts : List Subscript) → AreEach (IsSubscript n) es ts → ⊥))

-- memory ran out, or this is wrong
abbrev pub Because : Type 0 → Fault → Type 0
Because P fault = (fault ≡ OutOfMemory) ⊎ P
