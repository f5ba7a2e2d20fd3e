-- The iterations of parallel loops that are accepted leave the same elements in any order, and chunks of them leave and print together what the loop does; those of doacross nests do so wave by wave. (OpenMP 5.2, 1.4.1, 11.5, 15.9.6 and 15.10.2)
use Rattle.std.specs.Prelude.{ℕ, Bool, true, false, ◌≡◌, ◌≤◌, ◌<◌, List, [], ◌∷◌, length, map, filter, flat_map, Some, None, IsSome, slice_get, Option, ◌⊎◌}
use Rattle.std.specs.List.{list_all, AllByRecursion}
use Rattle.semantics.specs.Tree.{Variable, Stmt, Items, Declaration}
use Rattle.semantics.specs.Source.Token.{Token}
use Rattle.semantics.specs.Source.Scope.{Scope, Entity, AVariable, AConstant}
use Rattle.semantics.specs.Source.Statements.{ReadsIncrement, ReadsStmt}
use Rattle.semantics.specs.Meaning.State.{State, Outside, Holds, is_there, overwritten}
use Rattle.semantics.specs.Meaning.Agrees.{is_among, visible_behind}
use Rattle.semantics.specs.Meaning.Definite.{no_privates, definite}
use Rattle.semantics.specs.Loops.Nest.{Loop, Vector, nest_of, iterations}
use Rattle.semantics.specs.Meaning.Runs.{Effect, run}
use Rattle.semantics.specs.Loops.Operator.{ReduceOp}
use Rattle.semantics.specs.Loops.Order.{Distance}
use Rattle.semantics.specs.Loops.Piece.{Roles, SharedLoop, is_outside}
use Rattle.semantics.specs.Theorems.{is_declared, IsTurn, CommutesInAnyOrder}
use Rattle.law_commute.specs.Joining.{DeclaresLocals}
use Rattle.law_commute.specs.Targets.{targets_outside, is_local}
use Rattle.law_roles.specs.Updates.{operator_of, is_plain}
use Rattle.law_roles.specs.Sharing.{assigned_first, role_variables, are_different, IsScalar, HoldsNumber, TakesOperands, MayStart, changed_from, SharesFrom}
use Rattle.nest_loop.specs.Constants.{Each, IsSmall}
use Rattle.flow.specs.Phases.{PhasesSaid, item_count, HasPhases}
use Rattle.law_scans.specs.Scanning.{whole_of, first_of, ScansFrom}
use Rattle.law_waves.specs.Doacross.{SharesInWaves}
use Rattle.flow.specs.Roles.{LoopData, LineData, left_roles, AskedByLine}
use Rattle.law_independence.specs.Said.{SaidInside, LinesInside}

-- at each turn of the serial loops round a nest of so many loops at which the scalars that its body assigns from outside are locals, its iterations leave the same elements in any order
abbrev pub CommutesAtTurns : List Loop → ℕ → Stmt → Type 0
CommutesAtTurns serial n s =
    (loop : SharedLoop) (outer : State) (us : List Vector) → nest_of n s ≡ Some (loop.loops, loop.body) → loop.roles.reductions ≡ []
    → IsTurn serial outer → list_all (is_local outer) (targets_outside loop.body) ≡ true → iterations loop.loops outer ≡ Some us → CommutesInAnyOrder loop outer us

-- the serial loops have turns in each state
abbrev pub HaveTurns : List Loop → Type 0
HaveTurns serial = (s : State) → IsSome (iterations serial s)

-- a loop's step is one of the grammar, where enum constants are small
pub record IsStepRead (h : Loop) : Type 0 where
  pub scope : Scope
  pub order : ℕ
  pub tokens : List Token
  pub small : Each IsSmall scope
  pub reads : ReadsIncrement scope order tokens h.step

abbrev pub AreStepsRead : List Loop → Type 0
AreStepsRead [] = Unit {0}
AreStepsRead (h ∷ hs) = IsStepRead h × AreStepsRead hs

-- so those of a nest of so many loops
abbrev pub HasStepsRead : ℕ → Stmt → Type 0
HasStepsRead n s = (loops : List Loop) (body : Stmt) → nest_of n s ≡ Some (loops, body) → AreStepsRead loops

-- its iterations are there
abbrev pub IterateAtTurns : List Loop → ℕ → Stmt → Type 0
IterateAtTurns serial n s = (loops : List Loop) (body : Stmt) (outer : State) → nest_of n s ≡ Some (loops, body) → IsTurn serial outer → IsSome (iterations loops outer)

-- the roles of the scalars from outside that a loop assigns; firstprivate ones are none of them
abbrev pub used_roles : Stmt → Roles → Roles
used_roles s roles =
    record {
      privates = filter (is_among (targets_outside s)) roles.privates;
      firsts = [];
      lasts = filter (is_among (targets_outside s)) roles.lasts;
      conditionals = [];
      reductions = filter (λ r. is_among (targets_outside s) r.0) roles.reductions;
    }

-- variables with a role are scalars that stand where a loop is reached, reduction variables hold numbers, and their operands have values
pub record AreAtHand (roles : Roles) (s : Stmt) (outer : State) : Type 0 where
  pub scalars : (x : Variable) → is_among (role_variables roles) x ≡ true → IsScalar outer x
  pub numbers : (x : Variable) (op : ReduceOp) → operator_of roles.reductions x ≡ Some op → HoldsNumber outer x
  pub taken : TakesOperands roles.reductions s outer

-- wherever a nest has a run at a turn, and these are at hand, chunks of its iterations, each from a state in which it may start, have a run each, and what they leave, put together, is what it leaves, and what they print, one after another in their order, is what it prints
abbrev pub SharesAtTurns : Roles → List Loop → ℕ → Stmt → Type 0
SharesAtTurns roles serial n s =
    (loops : List Loop) (body : Stmt) (outer start : State) (us : List Vector) (chunks : List (List Vector)) (e : Effect)
    → nest_of n s ≡ Some (loops, body) → IsTurn serial outer → DeclaresLocals s outer → AreAtHand roles s outer → MayStart roles outer start
    → iterations loops outer ≡ Some us → flat_map (λ vs. vs) chunks ≡ us → run s outer ≡ Some e
    → SharesFrom start (changed_from start) roles s loops body chunks outer e

-- wherever it has a run it leaves what is visible round it as it was, but for the scalars that it assigns
abbrev pub LeavesOthers : Stmt → Type 0
LeavesOthers s =
    (outer : State) (e : Effect) → run s outer ≡ Some e
    → (x : Variable) → visible_behind s x ≡ true → is_among (targets_outside s) x ≡ false → (overwritten outer e.writes).locals x ≡ outer.locals x

-- the objects of the declarations are there and no other, and no local hides them; of each visible local one stands, and each that is known holds a number
pub record StandsThere (ds : List Declaration) (visible known : Variable → Bool) (s : State) : Type 0 where
  pub there : (x : Variable) (is : List ℕ) → is_there (s.cells x is) ≡ is_declared (slice_get ds x) is
  pub outside : (x : Variable) → x < length ds → s.locals x ≡ Outside
  pub inside : (x : Variable) → visible x ≡ true → length ds ≤ x → is_outside (s.locals x) ≡ false
  pub held : (x : Variable) → known x ≡ true → length ds ≤ x → (v : ℕ) × (s.locals x ≡ Holds v)

-- a name's variable has a number below the next one, and a local of it stands (C11 6.2.1)
abbrev pub IsSeen : List Declaration → ℕ → State → Entity → Type 0
IsSeen ds next s (AVariable x n) = (x < next) × (length ds ≤ x → is_outside (s.locals x) ≡ false)
IsSeen ds next s (AConstant n) = Unit {0}

-- a nest is read in this scope inside serial loops, and all that it may name stands there
pub record IsMet (ds : List Declaration) (scope : Scope) (next : ℕ) (known : Variable → Bool) (serial : List Loop) (outer : State) : Type 0 where
  pub small : Each IsSmall scope
  pub seen : Each (IsSeen ds next outer) scope
  pub room : length ds ≤ next
  pub below : (x : Variable) → known x ≡ true → x < next
  pub loops : AllByRecursion (λ l. l.variable < next) serial
  pub stands : StandsThere ds (λ x. false) known outer

-- where it is met so at a turn of the serial loops round it, and reads what is known, its operands are taken
abbrev pub TakesAtTurns : List Declaration → Roles → List Loop → Stmt → Type 0
TakesAtTurns ds roles serial s =
    (scope : Scope) (order next next' : ℕ) (tokens : List Token) (known : Variable → Bool) (outer : State)
    → ReadsStmt scope order next tokens s next' → IsTurn serial outer → IsMet ds scope next known serial outer
    → IsSome (definite no_privates s known) → TakesOperands roles.reductions s outer

-- iterations leave the same elements in any order and may be run in chunks, with these roles of what they assign, of which no variable has two
pub record SharesInChunks (roles : Roles) (serial : List Loop) (n : ℕ) (s : Stmt) : Type 0 where
  pub order : roles.reductions ≡ [] → CommutesAtTurns serial n s
  pub chunks : SharesAtTurns roles serial n s
  pub different : are_different (map (λ r. r.0) roles.reductions) ≡ true
  pub apart : list_all (is_plain roles.reductions) (assigned_first roles) ≡ true

-- wherever a nest of two phases has a run at a turn, and its variables are at hand, chunks of its iterations have a run each in both passes, and what those of the second leave, put together, is what it leaves, and what they print, one after another in their order, is what it prints (OpenMP 5.2, 5.6)
abbrev pub ScansAtTurns : Roles → Variable → ReduceOp → List Loop → List Loop → Stmt → Stmt → Stmt → Type 0
ScansAtTurns roles x op serial loops first whole s =
    (outer : State) (us : List Vector) (chunks : List (List Vector)) (e : Effect)
    → IsTurn serial outer → DeclaresLocals s outer → AreAtHand roles s outer → iterations loops outer ≡ Some us → flat_map (λ vs. vs) chunks ≡ us → run s outer ≡ Some e
    → ScansFrom roles x op s loops first whole chunks outer e

-- its line's phases are those of its body, and it may be run in two passes
pub record ScansInChunks (said : Option PhasesSaid) (x : Variable) (op : ReduceOp) (roles : Roles) (serial : List Loop) (n : ℕ) (s : Stmt) : Type 0 where
  pub only : roles.reductions ≡ (x, op) ∷ []
  pub apart : list_all (is_plain roles.reductions) (assigned_first roles) ≡ true
  pub inclusive : Bool
  pub front : Items
  pub back : Items
  pub told : said ≡ Some (inclusive, item_count front)
  pub loops : List Loop
  pub nest : nest_of n s ≡ Some (loops, whole_of front back)
  pub passes : ScansAtTurns roles x op serial loops (first_of inclusive front back) (whole_of front back) s

-- wherever a nest has a run at a turn of the serial loops round it, and its private variables are at hand, it may be run wave by wave, by these sinks (OpenMP 5.2, 15.9.6)
abbrev pub WavesAtTurns : Roles → List Distance → List Loop → ℕ → Stmt → Type 0
WavesAtTurns roles sinks serial n s =
    (loops : List Loop) (body : Stmt) (outer : State) (us : List Vector) (e : Effect)
    → nest_of n s ≡ Some (loops, body) → IsTurn serial outer → DeclaresLocals s outer → AreAtHand roles s outer
    → iterations loops outer ≡ Some us → run s outer ≡ Some e → SharesInWaves roles sinks s loops body us outer e

-- no variable of a nest is lastprivate or reduced, and it may be run so
pub record WavesInChunks (roles : Roles) (sinks : List Distance) (serial : List Loop) (n : ℕ) (s : Stmt) : Type 0 where
  pub no_lasts : roles.lasts ≡ []
  pub no_reductions : roles.reductions ≡ []
  pub passes : WavesAtTurns roles sinks serial n s

-- a statement is a nest of so many loops that assigns of scalars those alone that have the roles of its line; where its iterations carry nothing from one to the next, and its line has no sinks, they may be run in chunks, as a scan where they carry one variable that they assign, and wave by wave where it is a doacross nest
pub record SharesAsNest (ds : List Declaration) (d : LoopData) (said : SaidInside) (serial : List Loop) (n : ℕ) (s : Stmt) : Type 0 where
  pub nest : IsSome (nest_of n s)
  pub round : HaveTurns serial
  pub steps : HasStepsRead n s
  pub assigned : (x : Variable) → is_among (targets_outside s) x ≡ is_among (role_variables (used_roles s (left_roles d))) x
  pub there : IterateAtTurns serial n s
  pub leaves : LeavesOthers s
  pub takes : TakesAtTurns ds (used_roles s (left_roles d)) serial s
  pub phases : (d.carried ≡ []) ⊎ HasPhases d said.phases n s
  pub shares : d.carried ≡ [] → said.sinks ≡ None → SharesInChunks (used_roles s (left_roles d)) serial n s
  pub scans : (x : Variable) (op : ReduceOp) → d.carried ≡ (x, op) ∷ [] → is_among (targets_outside s) x ≡ true → ScansInChunks said.phases x op (used_roles s (left_roles d)) serial n s
  pub waves : (sinks : List Distance) → said.sinks ≡ Some sinks → WavesInChunks (used_roles s (left_roles d)) sinks serial n s

-- so the loop behind each directive line, with the roles that its line says, and the phases or the sinks that lines inside it say
abbrev pub SharesBy : List Declaration → LineData → LinesInside → AskedByLine
SharesBy ds R P line serial n s = SharesAsNest ds (R line) (P line) serial n s
