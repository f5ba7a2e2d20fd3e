-- Parallel loops as they are lowered, and where they are reached. (OpenMP 5.2, 4.4.2 and 11.5)
use Rattle.std.specs.Prelude.{ℕ, ◌≡◌, ◌≤◌, ◌↔◌, true, List, length, map, Some, Contains, slice_index}
use Rattle.std.specs.List.{list_all}
use Rattle.semantics.specs.Tree.{Variable, Stmt}
use Rattle.ktree.specs.declared.place.VarId.{VarId}
use Rattle.semantics.specs.Meaning.State.{State, Holds}
use Rattle.semantics.specs.Meaning.Runs.{run}
use Rattle.semantics.specs.Loops.Nest.{Loop, Vector, iterations}
use Rattle.semantics.specs.Loops.Piece.{Roles}
use Rattle.law_roles.specs.Updates.{is_plain}
use Rattle.law_roles.specs.Reducing.{AreHeld}
use Rattle.law_roles.specs.Sharing.{are_different}
use Rattle.affine.specs.declared.interval.Side.{Side}
use Rattle.affine_expr.specs.Forms.{is_counter}
use Rattle.nest_space.specs.declared.bounds.Value.{Value}
use Rattle.nest_space.specs.Space.{Turns, vectors, IsSpace}
use Rattle.nest_space.specs.Nests.{given, AreModest}
use Rattle.nest_space.specs.Heads.{AreHeadsOf}
use Rattle.nest_space.specs.Reached.{AreRunsReached}
use Rattle.store.specs.Kept.{Kept}
use Rattle.lower_code.specs.declared.laid.Laid.{Laid}
use Rattle.lower_code.specs.Meaning.{AreLocals}
use Rattle.lower_run.specs.Walk.{Performs, StandFor}
use Rattle.lower.specs.declared.lowered.LoweredLoop.{LoweredLoop}
use Rattle.lower.specs.Roles.{AreRolesAt}

-- these variables, each with what its register holds
abbrev pub values_in : List VarId → List ℕ → List Value
values_in variables registers = map (λ v. record { variable = v; value = slice_index registers v.0 }) variables

-- a loop is lowered from this nest inside the loops of a box: just their variables are listed, its loops, at most four, stand in their canonical form, its variables are locals with registers, its body is code, and the variables with a role stand where it says
pub record IsLoweredFrom (layout : List Laid) (mark : ℕ) (box : List Side) (roles : Roles) (loops : List Loop) (statement : Stmt) (l : LoweredLoop) : Type 0 where
  pub around : (x : Variable) → (is_counter box x ≡ true) ↔ Contains (map (λ v. v.0) l.around.items) x
  pub few : length l.loops.items ≤ 4
  pub heads : AreHeadsOf box loops l.loops.items
  pub own : AreLocals layout mark (map (λ h. h.variable) loops)
  pub body : Performs layout mark (run statement) l.body
  pub roles_at : AreRolesAt layout mark roles l.roles

-- it is not so that its loops have no space where registers hold this
abbrev pub MayBeReached : LoweredLoop → List ℕ → Type 0
MayBeReached l registers =
    let values = values_in l.around.items registers in
    ((ts : List Turns) → AreModest values → AreRunsReached l.loops.items (given values) ts → IsSpace ts → ⊥) → ⊥

-- it is reached in this state, for which registers and a store stand: the loops round it are at a turn, its own have a space there, these are its iterations, and no variable has two roles or is reduced that holds no number
pub record IsReached (layout : List Laid) (mark : ℕ) (roles : Roles) (loops : List Loop) (body : Stmt) (outer : State) (us : List Vector) (l : LoweredLoop) (registers : List ℕ) (ks : List Kept) : Type 0 where
  pub box : List Side
  pub lowered : IsLoweredFrom layout mark box roles loops body l
  pub stand : StandFor layout mark outer registers ks
  pub counters : (x : Variable) → is_counter box x ≡ true → (n : ℕ) × (outer.locals x ≡ Holds n)
  pub fits : MayBeReached l registers
  pub are : iterations loops outer ≡ Some us
  pub different : are_different (map (λ r. r.0) roles.reductions) ≡ true
  pub apart : list_all (is_plain roles.reductions) roles.lasts ≡ true
  pub held : AreHeld roles.reductions outer

-- wherever it is reached with these registers, its iterations are the vectors of this space
abbrev pub IsSpaceOf : LoweredLoop → List ℕ → List Turns → Type 0
IsSpaceOf l registers ts =
    (layout : List Laid) (mark : ℕ) (roles : Roles) (loops : List Loop) (body : Stmt) (outer : State) (us : List Vector) (ks : List Kept)
    → IsReached layout mark roles loops body outer us l registers ks → us ≡ vectors ts
