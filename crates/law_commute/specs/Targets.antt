-- What a statement assigns, and bodies that assign scalars from outside, each before it reads it. (OpenMP 5.2, 5.4.3)
use Rattle.std.specs.Prelude.{Bool, true, not, ◌&&◌, ◌≡◌, List, [], ◌∷◌, ◌++◌, filter, IsSome, is_none}
use Rattle.semantics.specs.Tree.{Variable, Exprs, no_exprs, more_exprs, Stmt, Assign, Update, If, IfElse, For, Block, Print, Items, no_items, mark, local, stmt}
use Rattle.semantics.specs.Meaning.State.{State}
use Rattle.semantics.specs.Meaning.Definite.{definite, no_privates}
use Rattle.semantics.specs.Meaning.Agrees.{is_among, names_only, visible_behind}
use Rattle.semantics.specs.Loops.Piece.{is_outside}
use Rattle.law_commute.specs.Steady.{IsSteady}

-- an object without subscripts is a scalar
abbrev pub scalar : Variable → Exprs → List Variable
scalar x no_exprs = x ∷ []
scalar x (more_exprs i is) = []

abbrev mutual
  -- the scalars that a statement assigns; a loop's start and step are none of its assignments (C11 6.5.16)
  pub targets : Stmt → List Variable
  targets (Assign x is e) = scalar x is
  targets (Update x is op e) = scalar x is
  targets (If c a) = targets a
  targets (IfElse c a b) = targets a ++ targets b
  targets (For x name start test step body) = targets body
  targets (Block items) = targets_among items
  targets (Print parts) = []

  -- those of a block's items
  pub targets_among : Items → List Variable
  targets_among no_items = []
  targets_among (mark line rest) = targets_among rest
  targets_among (local x name start rest) = targets_among rest
  targets_among (stmt a rest) = targets a ++ targets_among rest

-- those that it does not declare itself
abbrev pub targets_outside : Stmt → List Variable
targets_outside a = filter (visible_behind a) (targets a)

-- a body that names only what is declared outside of it, or inside of it and before (C11 6.2.1), and that assigns no scalar from outside but these
pub record KeepsApart (xs : List Variable) (body : Stmt) : Type 0 where
  pub names : names_only (visible_behind body) body ≡ true
  pub steady : IsSteady (λ x. visible_behind body x && not (is_among xs x)) body

-- each of these is assigned before it is read, on every path
abbrev pub AssignsFirst : List Variable → Stmt → Type 0
AssignsFirst xs a = IsSome (definite no_privates a (λ x. not (is_among xs x)))

-- a local stands under this number, and no object (C11 6.2.1)
abbrev pub is_local : State → Variable → Bool
is_local s x = not (is_outside (s.locals x)) && is_none (s.cells x [])
