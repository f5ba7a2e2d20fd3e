-- Chunks of a scan loop, in two passes, put together. (OpenMP 5.2, 5.4.3, 5.4.5, 5.6 and 11.5.3)
use Rattle.std.specs.Prelude.{ℕ, Bool, true, false, ◌≡◌, ◌≢◌, ◌⊎◌, List, [], ◌∷◌, length, map, flat_map, Option, Some, Contains, IsSome}
use Rattle.std.specs.List.{AllPairs}
use Rattle.semantics.specs.Tree.{Variable, Stmt, Block, Items}
use Rattle.semantics.specs.Meaning.State.{State, overwritten, look}
use Rattle.semantics.specs.Meaning.Runs.{Effect, run}
use Rattle.semantics.specs.Meaning.Places.{below}
use Rattle.semantics.specs.Meaning.Agrees.{is_among, visible_behind}
use Rattle.semantics.specs.Loops.Nest.{Loop, Vector, nest_of, iterations}
use Rattle.semantics.specs.Loops.Access.{Conflict}
use Rattle.semantics.specs.Loops.Operator.{ReduceOp}
use Rattle.semantics.specs.Loops.Piece.{Roles}
use Rattle.semantics.specs.Loops.Joined.{given}
use Rattle.semantics.specs.Loops.Scan.{start_of}
use Rattle.law_commute.specs.Targets.{KeepsApart, AssignsFirst}
use Rattle.law_commute.specs.Commuting.{InnerLoopsTurn}
use Rattle.law_commute.specs.Joining.{DeclaresLocals}
use Rattle.law_nests.specs.Walks.{walk}
use Rattle.law_nests.specs.Merging.{Cells, left_by}
use Rattle.law_roles.specs.Updates.{operands}
use Rattle.law_roles.specs.Reducing.{takes_all}
use Rattle.law_roles.specs.Sharing.{assigned_first, role_variables, IsScalar, HoldsNumber, AssignsAll, MergesAt, last_filled, changed_from}
use Rattle.law_starts.specs.Begun.{begun}
use Rattle.law_scans.specs.Phases.{joined_items, keeps_phases, first_items}
use Rattle.law_scans.specs.Passes.{walks_from}

-- ---- the loop

-- what each iteration runs, and what the first pass runs of it
abbrev pub whole_of : Items → Items → Stmt
whole_of front back = Block (joined_items front back)

abbrev pub first_of : Bool → Items → Items → Stmt
first_of inclusive front back = Block (first_items inclusive front back)

-- no variable is firstprivate or conditional, the scan variable alone is reduced, and a nest whose body has two phases assigns no scalar from outside but variables with a role, each as its role allows
pub record KeepsScan (roles : Roles) (x : Variable) (op : ReduceOp) (inclusive : Bool) (s : Stmt) (front back : Items) (outer : State) : Type 0 where
  pub no_firsts : roles.firsts ≡ []
  pub no_conditionals : roles.conditionals ≡ []
  pub only : roles.reductions ≡ (x, op) ∷ []
  pub whole : KeepsApart (role_variables roles) s
  pub inside : KeepsApart (role_variables roles) (whole_of front back)
  pub declares_none : (y : Variable) → is_among (role_variables roles) y ≡ true → visible_behind s y ≡ true
  pub scalars : (y : Variable) → is_among (role_variables roles) y ≡ true → IsScalar outer y
  pub apart : is_among (assigned_first roles) x ≡ false
  pub first : AssignsFirst (assigned_first roles) s
  pub last : AssignsAll (assigned_first roles) roles.lasts (whole_of front back)
  pub phases : keeps_phases x op inclusive front back ≡ true
  pub number : HoldsNumber outer x

-- each operand is taken: the scan is not by && or ||, or all operands of the input phases have values also where these leave one out (C11 6.5.13 and 6.5.14)
abbrev pub TakesInputs : Variable → ReduceOp → List Loop → Stmt → List Vector → State → Type 0
TakesInputs x op loops first us outer = (takes_all ((x, op) ∷ []) ≡ true) ⊎ IsSome (walk loops (operands ((x, op) ∷ []) first) us outer)

-- what is known of such a nest before it, and of the chunks of its iterations, which are all different and of which no two conflict
pub record IsScanned (roles : Roles) (x : Variable) (op : ReduceOp) (inclusive : Bool) (n : ℕ) (s : Stmt) (loops : List Loop) (front back : Items) (outer : State) (chunks : List (List Vector)) (e : Effect) : Type 0 where
  pub nest : nest_of n s ≡ Some (loops, whole_of front back)
  pub keeps : KeepsScan roles x op inclusive s front back outer
  pub declares : DeclaresLocals s outer
  pub vectors : List Vector
  pub are : iterations loops outer ≡ Some vectors
  pub taken : TakesInputs x op loops (first_of inclusive front back) vectors outer
  pub different : AllPairs (λ u v. u ≢ v) vectors
  pub turning : (u : Vector) → Contains vectors u → InnerLoopsTurn loops (whole_of front back) outer u
  pub independent : (u v : Vector) → Contains vectors u → Contains vectors v → Conflict loops (whole_of front back) outer u v → ⊥
  pub whole : flat_map (λ vs. vs) chunks ≡ vectors
  pub ran : run s outer ≡ Some e

-- ---- the passes

-- what the chunks of the first pass change the scan variable to, each from where a chunk may begin
abbrev pub scan_partials : Roles → Variable → State → List Effect → List (Option ℕ)
scan_partials roles x outer firsts = map (λ f. changed_from (begun roles outer) f x) firsts

-- where so many chunks of the second pass begin: as before the loop, each with the scan variable at its start
abbrev pub scan_starts : Variable → ReduceOp → State → List (Option ℕ) → ℕ → List State
scan_starts x op outer partials count = map (λ c. given outer x (start_of op (look outer x []) partials c)) (below count)

-- both passes have a run for each chunk; what the chunks of the second leave, put together, is what the nest leaves, and the scan variable holds the start of one chunk more; the nest leaves what is visible round it as it was, but for variables with a role, and prints what the chunks of the second print, one after another in their order (OpenMP 5.2, 5.6 and 15.10.2)
pub record ScansFrom (roles : Roles) (x : Variable) (op : ReduceOp) (s : Stmt) (loops : List Loop) (first whole : Stmt) (chunks : List (List Vector)) (outer : State) (e : Effect) : Type 0 where
  pub firsts : List Effect
  pub first_pass : map (λ us. walk loops first us (begun roles outer)) chunks ≡ map Some firsts
  pub seconds : List Effect
  pub second_pass : walks_from loops whole (scan_starts x op outer (scan_partials roles x outer firsts) (length chunks)) chunks ≡ map Some seconds
  pub merge : (after : Cells)
      → ((y : Variable) (is : List ℕ) → is_among (role_variables roles) y ≡ false → MergesAt outer seconds after y is)
      → (y : Variable) (is : List ℕ) → is_among (role_variables roles) y ≡ false → after y is ≡ left_by outer e y is
  pub value : look (overwritten outer e.writes) x [] ≡ start_of op (look outer x []) (scan_partials roles x outer firsts) (length chunks)
  pub lasts : (y : Variable) (f : Effect) → is_among roles.lasts y ≡ true → last_filled chunks seconds ≡ Some f
      → look (overwritten outer e.writes) y [] ≡ look (overwritten outer f.writes) y []
  pub filled : (flat_map (λ us. us) chunks ≡ [] → ⊥) → IsSome (last_filled chunks seconds)
  pub no_last : (y : Variable) → is_among roles.lasts y ≡ true → flat_map (λ us. us) chunks ≡ []
      → look (overwritten outer e.writes) y [] ≡ look outer y []
  pub locals : (y : Variable) → visible_behind s y ≡ true → is_among (role_variables roles) y ≡ false
      → (overwritten outer e.writes).locals y ≡ outer.locals y
  pub text : e.text ≡ flat_map (λ (f : Effect). f.text) seconds

-- so do chunks of a scan
abbrev pub ScanChunksJoin : Type 0
ScanChunksJoin =
    (roles : Roles) (x : Variable) (op : ReduceOp) (inclusive : Bool) (n : ℕ) (s : Stmt) (loops : List Loop) (front back : Items) (outer : State) (chunks : List (List Vector)) (e : Effect)
    → IsScanned roles x op inclusive n s loops front back outer chunks e
    → ScansFrom roles x op s loops (first_of inclusive front back) (whole_of front back) chunks outer e
