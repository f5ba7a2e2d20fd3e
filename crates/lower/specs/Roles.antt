-- Where the variables stand that leave something behind a loop. (OpenMP 5.2, 5.4.5 and 5.5.8)
use Rattle.std.specs.Prelude.{ℕ, ◌≡◌, ◌<◌, List, [], ◌∷◌, Some, length}
use Rattle.semantics.specs.Tree.{Variable}
use Rattle.semantics.specs.Loops.Operator.{ReduceOp}
use Rattle.semantics.specs.Loops.Piece.{Roles}
use Rattle.ktree.specs.DirectiveView.{operator_of}
use Rattle.lower_code.specs.declared.laid.Laid.{Laid}
use Rattle.lower_code.specs.Layout
use Rattle.lower_code.specs.Layout.{shapes_of}
use Rattle.lower_code.specs.Meaning.{AreLocals}
use Rattle.lower.specs.declared.roles.Spot.{Spot}
use Rattle.lower.specs.declared.roles.Spot.TheVariants.{Register, Cell}
use Rattle.lower.specs.declared.roles.LoweredReduction.{LoweredReduction}
use Rattle.lower.specs.declared.roles.LoweredRoles.{LoweredRoles}

-- a scalar stands here: a local has the register of its number, and one at file scope its cell
abbrev pub StandsAt : List Laid → ℕ → Variable → Spot → Type 0
StandsAt layout mark x (Register r) = (r.0 ≡ x) × AreLocals layout mark (x ∷ [])
StandsAt layout mark x (Cell place) = (x < length layout) × (Layout.spot (shapes_of layout) x [] ≡ Some place)

-- so do these, one each
abbrev pub StandEach : List Laid → ℕ → List Variable → List Spot → Type 0
StandEach layout mark [] [] = Unit {0}
StandEach layout mark [] (at ∷ spots) = ⊥
StandEach layout mark (x ∷ xs) [] = ⊥
StandEach layout mark (x ∷ xs) (at ∷ spots) = StandsAt layout mark x at × StandEach layout mark xs spots

-- and reduction variables, each with its operator
abbrev pub AreReduced : List Laid → ℕ → List (Variable × ReduceOp) → List LoweredReduction → Type 0
AreReduced layout mark [] [] = Unit {0}
AreReduced layout mark [] (l ∷ ls) = ⊥
AreReduced layout mark (r ∷ rs) [] = ⊥
AreReduced layout mark (r ∷ rs) (l ∷ ls) = (operator_of l.operator ≡ r.1) × StandsAt layout mark r.0 l.spot × AreReduced layout mark rs ls

-- the reduction and lastprivate variables of these roles stand so, in their order
pub record AreRolesAt (layout : List Laid) (mark : ℕ) (roles : Roles) (l : LoweredRoles) : Type 0 where
  pub reductions : AreReduced layout mark roles.reductions l.reductions.items
  pub lasts : StandEach layout mark roles.lasts l.lasts.items
