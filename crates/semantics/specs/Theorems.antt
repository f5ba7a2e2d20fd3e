-- What the project promises of loops and of the whole program, under plain names that contracts cite.
use Rattle.std.specs.Prelude.{ℕ, Bool, false, ◌≡◌, ◌⊎◌, ◌<◌, ◌^◌, List, [], ◌∷◌, ◌++◌, length, Option, Some, None, slice_get, option_and_then, Contains}
use Rattle.semantics.specs.Tree.{Variable, Stmt, Declaration, Kernel}
use Rattle.semantics.specs.Source.Text.{erase}
use Rattle.semantics.specs.Source.Grammar.{ReadsText}
use Rattle.semantics.specs.Meaning.State.{State, Holds, Write, slot_of, with_local, overwritten, look, is_there}
use Rattle.semantics.specs.Meaning.Value.{map_option}
use Rattle.semantics.specs.Meaning.Runs.{Effect, nothing, then_from, Runs}
use Rattle.semantics.specs.Meaning.Places.{within}
use Rattle.semantics.specs.Meaning.Output.{Given, IsInput, Outputs, output}
use Rattle.semantics.specs.Loops.Arrangement.{EachOnceBelow, picked}
use Rattle.semantics.specs.Loops.Nest.{Loop, Vector, nest_of, iterations, at_vector}
use Rattle.semantics.specs.Loops.Access.{Conflict}
use Rattle.semantics.specs.Loops.Chunk.{Kind}
use Rattle.semantics.specs.Loops.Operator.{ReduceOp}
use Rattle.semantics.specs.Loops.Piece.{Roles, SharedLoop, run_iteration, run_iterations}
use Rattle.semantics.specs.Loops.Joined.{JoinedLoop}
use Rattle.semantics.specs.Loops.Scan.{ScannedLoop}
use Rattle.semantics.specs.Loops.Order.{Distance, Before, Respects, waves, JoinedWaves}
use Rattle.semantics.specs.Meaning.Agrees.{AgreesBehind}

-- an object of these variables
abbrev pub is_declared : Option Declaration → List ℕ → Bool
is_declared None is = false
is_declared (Some d) is = within d.lengths is

-- a state of a text's variables: each object that it declares is there and no other, and all numbers are below 2^64
pub record IsStateOf (ds : List Declaration) (s : State) : Type 0 where
  pub there : (x : Variable) (is : List ℕ) → is_there (s.cells x is) ≡ is_declared (slice_get ds x) is
  pub cells : (x : Variable) (is : List ℕ) (v : ℕ) → s.cells x is ≡ Some v → v < 2 ^ 64
  pub locals : (x : Variable) (v : ℕ) → s.locals x ≡ Holds v → v < 2 ^ 64

-- a state at some turn of the serial loops round a loop, from the outside, whatever guards stand between them
pub record IsTurn (serial : List Loop) (outer : State) : Type 0 where
  pub turns : List Vector
  pub are : iterations serial outer ≡ Some turns
  pub turn : Vector
  pub among : Contains turns turn
  pub is : outer ≡ at_vector serial turn outer

-- the statement is a nest of so many associated loops, and these are its iterations there
pub record IsNest (statement : Stmt) (depth : ℕ) (loop : SharedLoop) (outer : State) (us : List Vector) : Type 0 where
  pub nest : nest_of depth statement ≡ Some (loop.loops, loop.body)
  pub vectors : iterations loop.loops outer ≡ Some us

-- no two iterations conflict, at any turn of the serial loops
abbrev pub IsIndependent : List Loop → SharedLoop → Type 0
IsIndependent serial loop =
    (outer : State) (us : List Vector) (u v : Vector) → IsTurn serial outer → iterations loop.loops outer ≡ Some us
    → Contains us u → Contains us v → Conflict loop.loops loop.body outer u v → ⊥

-- of two iterations that conflict, the sinks put one before the other
abbrev pub IsCovered : List Loop → SharedLoop → List Distance → Type 0
IsCovered serial loop ds =
    (outer : State) (us : List Vector) (u v : Vector) → IsTurn serial outer → iterations loop.loops outer ≡ Some us
    → Contains us u → Contains us v → Conflict loop.loops loop.body outer u v → Before us ds u v ⊎ Before us ds v u

-- the same elements of arrays; scalars are left out
abbrev pub SameElements : State → State → Type 0
SameElements s t = (x : Variable) (i : ℕ) (is : List ℕ) → s.cells x (i ∷ is) ≡ t.cells x (i ∷ is)

-- the same values of the reduction variables
abbrev pub SameReductions : Roles → State → State → Type 0
SameReductions roles s t = (r : Variable × ReduceOp) → Contains roles.reductions r → look s r.0 [] ≡ look t r.0 []

-- a run of the iterations in sequential order has its like in this order of them, with the same elements and reductions
abbrev pub CommutesTo : SharedLoop → State → List Vector → List ℕ → Type 0
CommutesTo loop outer us order =
    (e : Effect) → run_iterations loop.loops loop.body us outer ≡ Some e
    → (f : Effect) × (run_iterations loop.loops loop.body (picked us order) outer ≡ Some f)
    × SameElements (overwritten outer e.writes) (overwritten outer f.writes)
    × SameReductions loop.roles (overwritten outer e.writes) (overwritten outer f.writes)

-- in any order
abbrev pub CommutesInAnyOrder : SharedLoop → State → List Vector → Type 0
CommutesInAnyOrder loop outer us = (order : List ℕ) → EachOnceBelow (length us) order → CommutesTo loop outer us order

-- in any order that respects the sinks
abbrev pub CommutesInOrder : SharedLoop → List Distance → State → List Vector → Type 0
CommutesInOrder loop ds outer us =
    (order : List ℕ) → EachOnceBelow (length us) order → Respects us ds (picked us order) → CommutesTo loop outer us order

-- each iteration with what the scan variable holds before it in sequential order
abbrev pub scan_turns : SharedLoop → Variable → List Vector → State → Option (List (Vector × Option ℕ))
scan_turns loop x [] s = Some []
scan_turns loop x (u ∷ us) s =
    option_and_then
    (λ e. map_option (λ rest. (u, look s x []) ∷ rest) (scan_turns loop x us (overwritten s e.writes)))
    (run_iteration loop.loops loop.body u s)

-- iterations one after another, each started with the scan variable, as a local, at its own value
abbrev pub run_turns : SharedLoop → Variable → List (Vector × Option ℕ) → State → Option Effect
run_turns loop x [] s = Some nothing
run_turns loop x (t ∷ ts) s =
    then_from s (run_iteration loop.loops loop.body t.0 (with_local s x (slot_of t.1))) (run_turns loop x ts)

-- of a scan: in any order, each iteration started with the scan variable at the value that it has there in sequential order
abbrev pub CommutesInScan : SharedLoop → Variable → State → List Vector → Type 0
CommutesInScan loop x outer us =
    (order : List ℕ) (e : Effect) (turns : List (Vector × Option ℕ)) → EachOnceBelow (length us) order
    → run_iterations loop.loops loop.body us outer ≡ Some e → scan_turns loop x us outer ≡ Some turns
    → (f : Effect) × (run_turns loop x (picked turns order) (with_local outer x (slot_of (look outer x []))) ≡ Some f)
    × SameElements (overwritten outer e.writes) (overwritten (with_local outer x (slot_of (look outer x []))) f.writes)

-- a team ended with a join of the loop's chunks in some order
abbrev pub JoinsTheLoop : SharedLoop → Kind → ℕ → State → State → List ℕ → Type 0
JoinsTheLoop loop kind workers before after text =
    (us : List Vector) × (order : List ℕ) × (iterations loop.loops before ≡ Some us)
    × JoinedLoop loop us kind workers order before after text

-- of a scan in two passes, in some order of the second
abbrev pub ScansTheLoop : SharedLoop → Variable → ReduceOp → Kind → ℕ → State → State → List ℕ → Type 0
ScansTheLoop loop x op kind workers before after text =
    (us : List Vector) × (order : List ℕ) × (iterations loop.loops before ≡ Some us)
    × ScannedLoop loop x op us kind workers order before after text

-- of a doacross loop wave by wave
abbrev pub JoinsTheWaves : SharedLoop → List Distance → Kind → ℕ → State → State → List ℕ → Type 0
JoinsTheWaves loop ds kind workers before after text =
    (us : List Vector) × (iterations loop.loops before ≡ Some us)
    × JoinedWaves loop kind workers (waves us ds) before after text

-- the state and the text are those of C's own run of the loop's statement; locals in a private list are left out
abbrev pub RunsAsTheLoop : Stmt → Roles → State → State → List ℕ → Type 0
RunsAsTheLoop statement roles before after text =
    (writes : List Write) × (left : State) × Runs statement before writes left text × AgreesBehind statement roles left after

-- the text's tree once its directive lines are erased, which is what an accepted text stands for
abbrev pub StandsFor : List ℕ → Kernel → Type 0
StandsFor text tree = ReadsText (erase text) tree

-- what the C program of a text, without its directive lines, writes for an input
abbrev pub OutputOf : List ℕ → List ℕ → List ℕ → Type 0
OutputOf text input out = (tree : Kernel) × StandsFor text tree × Outputs tree input out

-- a text begins with another
abbrev pub Begins : List ℕ → List ℕ → Type 0
Begins front whole = (rest : List ℕ) × (whole ≡ front ++ rest)

-- the input is none of these variables
abbrev pub NoInput : Kernel → List ℕ → Type 0
NoInput tree input = (given : Given) → IsInput tree.variables input given → ⊥

-- whatever the answer: a sink that had these bytes before has them now, and behind them a beginning of the output, nothing for a faulty input
pub record WritesABeginning (tree : Kernel) (input before after : List ℕ) : Type 0 where
  pub written : List ℕ
  pub added : after ≡ before ++ written
  pub good : (given : Given) → IsInput tree.variables input given → (out : List ℕ) × (output tree given ≡ Some out) × Begins written out
  pub faulty : NoInput tree input → written ≡ []

-- at Ok: behind the bytes from before stands all of the output
abbrev pub WritesAll : Kernel → List ℕ → List ℕ → List ℕ → Type 0
WritesAll tree input before after = (out : List ℕ) × Outputs tree input out × (after ≡ before ++ out)

-- a refusal, by its number: 22 only of a faulty input, 24 only where the sink failed in this call, and a faulty input is 22 or 23
pub record RefusesRightly (tree : Kernel) (input : List ℕ) (failures failures' number : ℕ) : Type 0 where
  pub which : (number ≡ 22) ⊎ ((number ≡ 23) ⊎ (number ≡ 24))
  pub input_fault : number ≡ 22 → NoInput tree input
  pub sink_fault : number ≡ 24 → failures < failures'
  pub faulty : NoInput tree input → (number ≡ 22) ⊎ (number ≡ 23)
