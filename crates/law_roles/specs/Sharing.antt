-- Chunks of a loop with private, lastprivate and reduction variables, each from its own start, put together. (OpenMP 5.2, 5.4.3, 5.4.5, 5.5.5 and 11.5.3)
use Rattle.std.specs.Prelude.{ℕ, Bool, true, false, not, ◌&&◌, ◌||◌, ◌==◌, if◌then◌else◌, ◌≡◌, ◌≢◌, ◌⊎◌, ◌<◌, ◌^◌, List, [], ◌∷◌, ◌++◌, length, map, flat_map, Option, Some, None, Contains, IsSome}
use Rattle.std.specs.List.{AllPairs, list_all}
use Rattle.semantics.specs.Tree.{Variable, Stmt}
use Rattle.semantics.specs.Meaning.State.{State, Outside, overwritten, look, is_there}
use Rattle.semantics.specs.Meaning.Runs.{Effect, run}
use Rattle.semantics.specs.Meaning.Agrees.{is_among, visible_behind}
use Rattle.semantics.specs.Meaning.Definite.{DefinitelyAssigned, definite, no_privates}
use Rattle.semantics.specs.Loops.Arrangement.{EachOnceBelow, picked}
use Rattle.semantics.specs.Loops.Nest.{Loop, Vector, nest_of, iterations}
use Rattle.semantics.specs.Loops.Access.{Conflict}
use Rattle.semantics.specs.Loops.Operator.{ReduceOp, identity, combined_all}
use Rattle.semantics.specs.Loops.Piece.{Roles, chunk_start, if_updated, is_outside}
use Rattle.law_commute.specs.Targets.{KeepsApart, AssignsFirst}
use Rattle.law_commute.specs.Commuting.{InnerLoopsTurn}
use Rattle.law_commute.specs.Joining.{DeclaresLocals}
use Rattle.law_nests.specs.Walks.{walk}
use Rattle.law_nests.specs.Merging.{Cells, left_by, NoneChanges, OneChanges}
use Rattle.law_roles.specs.Updates.{operator_of, is_plain, is_and_also, is_or_else, reduces, operands}
use Rattle.law_roles.specs.Reducing.{takes_all}

-- ---- the variables

-- private and lastprivate variables
abbrev pub assigned_first : Roles → List Variable
assigned_first roles = roles.privates ++ roles.lasts

-- all variables with a role
abbrev pub role_variables : Roles → List Variable
role_variables roles = assigned_first roles ++ map (λ r. r.0) roles.reductions

-- no variable stands twice in the list
abbrev pub are_different : List Variable → Bool
are_different [] = true
are_different (x ∷ xs) = not (is_among xs x) && are_different xs

-- a scalar at file scope that no local hides (C11 6.2.1)
pub record IsFileScalar (s : State) (x : Variable) : Type 0 where
  pub outside : s.locals x ≡ Outside
  pub there : is_there (s.cells x []) ≡ true
  pub alone : (i : ℕ) (is : List ℕ) → s.cells x (i ∷ is) ≡ None

-- a local, or such a scalar
abbrev pub IsScalar : State → Variable → Type 0
IsScalar s x = (is_outside (s.locals x) ≡ false) ⊎ IsFileScalar s x

-- it holds a number of 64 bits
abbrev pub HoldsNumber : State → Variable → Type 0
HoldsNumber s x = (v : ℕ) × (look s x [] ≡ Some v) × (v < 2 ^ 64)

-- each of the last ones is assigned on every path through the body (OpenMP 5.2, 5.4.5)
pub record AssignsAll (first lasts : List Variable) (body : Stmt) : Type 0 where
  pub known : DefinitelyAssigned
  pub is : definite no_privates body (λ x. not (is_among first x)) ≡ Some known
  pub each : (x : Variable) → is_among lasts x ≡ true → known x ≡ true

-- each operand is taken: no reduction is by && or ||, or all operands have values also where these leave one out (C11 6.5.13 and 6.5.14)
abbrev pub TakesOperands : List (Variable × ReduceOp) → Stmt → State → Type 0
TakesOperands reductions s outer = (takes_all reductions ≡ true) ⊎ IsSome (run (operands reductions s) outer)

-- no variable is firstprivate or conditional, and a nest assigns no scalar from outside but variables with a role, each as its role allows
pub record KeepsRoles (roles : Roles) (s body : Stmt) (outer : State) : Type 0 where
  pub no_firsts : roles.firsts ≡ []
  pub no_conditionals : roles.conditionals ≡ []
  pub whole : KeepsApart (role_variables roles) s
  pub inside : KeepsApart (role_variables roles) body
  pub declares_none : (x : Variable) → is_among (role_variables roles) x ≡ true → visible_behind s x ≡ true
  pub scalars : (x : Variable) → is_among (role_variables roles) x ≡ true → IsScalar outer x
  pub apart : list_all (is_plain roles.reductions) (assigned_first roles) ≡ true
  pub first : AssignsFirst (assigned_first roles) s
  pub last : AssignsAll (assigned_first roles) roles.lasts body
  pub updates : reduces roles.reductions s ≡ true
  pub different : are_different (map (λ r. r.0) roles.reductions) ≡ true
  pub taken : TakesOperands roles.reductions s outer
  pub numbers : (x : Variable) (op : ReduceOp) → operator_of roles.reductions x ≡ Some op → HoldsNumber outer x

-- ---- what chunks leave

-- an object is as before where no chunk changes it, and else as one leaves it that does
abbrev pub MergesAt : State → List Effect → Cells → Variable → List ℕ → Type 0
MergesAt start es after x is = (NoneChanges start es x is × (after x is ≡ start.cells x is)) ⊎ OneChanges start es after x is

-- the later one where it is there, and else this one if it has an iteration
abbrev pub or_filled : List Vector → Effect → Option Effect → Option Effect
or_filled us e (Some f) = Some f
or_filled [] e None = None
or_filled (u ∷ us) e None = Some e

-- the effect of the last chunk that has an iteration
abbrev pub last_filled : List (List Vector) → List Effect → Option Effect
last_filled [] es = None
last_filled (us ∷ chunks) [] = None
last_filled (us ∷ chunks) (e ∷ es) = or_filled us e (last_filled chunks es)

-- ---- the laws

-- each chunk has a walk from its start, and these, put together, are what the nest leaves, where a chunk's partial of a reduction variable is told so; it leaves what is visible round it as it was, but for variables with a role, and prints what the chunks print, one after another in their order (OpenMP 5.2, 15.10.2)
pub record SharesFrom (start : State) (partial : Effect → Variable → Option ℕ) (roles : Roles) (s : Stmt) (loops : List Loop) (body : Stmt) (chunks : List (List Vector)) (outer : State) (e : Effect) : Type 0 where
  pub effects : List Effect
  pub each : map (λ us. walk loops body us start) chunks ≡ map Some effects
  pub merge : (after : Cells)
      → ((x : Variable) (is : List ℕ) → is_among (role_variables roles) x ≡ false → MergesAt start effects after x is)
      → (x : Variable) (is : List ℕ) → is_among (role_variables roles) x ≡ false → after x is ≡ left_by outer e x is
  pub reductions : (x : Variable) (op : ReduceOp) (v : ℕ) (order : List ℕ) → operator_of roles.reductions x ≡ Some op → look outer x [] ≡ Some v
      → EachOnceBelow (length chunks) order
      → look (overwritten outer e.writes) x [] ≡ Some (combined_all op v (picked (map (λ f. partial f x) effects) order))
  pub lasts : (x : Variable) (f : Effect) → is_among roles.lasts x ≡ true → last_filled chunks effects ≡ Some f
      → look (overwritten outer e.writes) x [] ≡ look (overwritten start f.writes) x []
  pub filled : (flat_map (λ us. us) chunks ≡ [] → ⊥) → IsSome (last_filled chunks effects)
  pub no_last : (x : Variable) → is_among roles.lasts x ≡ true → flat_map (λ us. us) chunks ≡ []
      → look (overwritten outer e.writes) x [] ≡ look outer x []
  pub locals : (x : Variable) → visible_behind s x ≡ true → is_among (role_variables roles) x ≡ false
      → (overwritten outer e.writes).locals x ≡ outer.locals x
  pub text : e.text ≡ flat_map (λ (f : Effect). f.text) effects

-- a reduction variable's partial in a chunk that begins with copies: none where the chunk does not update it
abbrev pub updated_from : State → Effect → Variable → Option ℕ
updated_from start f x = if_updated f.writes (overwritten start f.writes) x

-- each chunk from copies of its own
abbrev pub SharesOut : Roles → Stmt → List Loop → Stmt → List (List Vector) → State → Effect → Type 0
SharesOut roles s loops body chunks outer e = SharesFrom (chunk_start roles outer) (updated_from (chunk_start roles outer)) roles s loops body chunks outer e

-- what is known of a nest before it, and of the chunks of its iterations, which are all different and of which no two conflict, and which keep the roles of their variables
pub record IsShared (roles : Roles) (n : ℕ) (s : Stmt) (loops : List Loop) (body : Stmt) (outer : State) (chunks : List (List Vector)) (e : Effect) : Type 0 where
  pub nest : nest_of n s ≡ Some (loops, body)
  pub keeps : KeepsRoles roles s body outer
  pub declares : DeclaresLocals s outer
  pub vectors : List Vector
  pub are : iterations loops outer ≡ Some vectors
  pub different : AllPairs (λ u v. u ≢ v) vectors
  pub turning : (u : Vector) → Contains vectors u → InnerLoopsTurn loops body outer u
  pub independent : (u v : Vector) → Contains vectors u → Contains vectors v → Conflict loops body outer u v → ⊥
  pub whole : flat_map (λ vs. vs) chunks ≡ vectors
  pub ran : run s outer ≡ Some e

-- then they leave put together what the nest leaves, whatever the order in which partials are combined
abbrev pub RoleChunksJoin : Type 0
RoleChunksJoin =
    (roles : Roles) (n : ℕ) (s : Stmt) (loops : List Loop) (body : Stmt) (outer : State) (chunks : List (List Vector)) (e : Effect)
    → IsShared roles n s loops body outer chunks e → SharesOut roles s loops body chunks outer e

-- what a reduction variable may hold where a chunk begins: the identity, or of && and || what it held before the loop
abbrev pub begins_with : ReduceOp → ℕ → ℕ
begins_with op v = if is_and_also op || is_or_else op then v else identity op

-- each variable stands where it stood before the loop, with what it held there unless it has a role, and reduction variables with what a chunk may begin with
pub record MayStart (roles : Roles) (outer start : State) : Type 0 where
  pub locals : (x : Variable) → is_among (role_variables roles) x ≡ false → start.locals x ≡ outer.locals x
  pub cells : (x : Variable) (is : List ℕ) → is_among (role_variables roles) x ≡ false → start.cells x is ≡ outer.cells x is
  pub scalars : (x : Variable) → is_among (role_variables roles) x ≡ true → IsScalar start x
  pub begins : (x : Variable) (op : ReduceOp) (v : ℕ) → operator_of roles.reductions x ≡ Some op → look outer x [] ≡ Some v → look start x [] ≡ Some (begins_with op v)

-- what it holds in the end where that is another number
abbrev pub unless_same : Option ℕ → Option ℕ → Option ℕ
unless_same None a = None
unless_same (Some b) None = None
unless_same (Some b) (Some a) = if a == b then None else Some a

-- a partial by what the variable holds before the chunk and behind it
abbrev pub changed_from : State → Effect → Variable → Option ℕ
changed_from start f x = unless_same (look start x []) (look (overwritten start f.writes) x [])

-- so do chunks that begin without copies, each from such a state, whether or not an update left its variable as it was
abbrev pub RoleChunksJoinInPlace : Type 0
RoleChunksJoinInPlace =
    (roles : Roles) (n : ℕ) (s : Stmt) (loops : List Loop) (body : Stmt) (outer start : State) (chunks : List (List Vector)) (e : Effect)
    → IsShared roles n s loops body outer chunks e → MayStart roles outer start
    → SharesFrom start (changed_from start) roles s loops body chunks outer e
