-- What one chunk does, from the state before its loop.
use Rattle.std.specs.Prelude.{ℕ, Bool, true, false, ◌==◌, ◌&&◌, if◌then◌else◌, List, [], ◌∷◌, map, Option, Some, None, filter}
use Rattle.std.specs.List.{list_any}
use Rattle.semantics.specs.Tree.{Variable, Stmt}
use Rattle.semantics.specs.Meaning.State.{State, Slot, Outside, Empty, Holds, Write, Declared, Assigned, slot_of, with_local, overwritten, look, is_there}
use Rattle.semantics.specs.Meaning.Value.{map_option}
use Rattle.semantics.specs.Meaning.Runs.{Effect, nothing, then_from, run}
use Rattle.semantics.specs.Loops.Nest.{Loop, Vector, at_vector}
use Rattle.semantics.specs.Loops.Operator.{ReduceOp, identity}

-- what the clauses of a loop say of variables: private, firstprivate, lastprivate, lastprivate(conditional:) and reduction (OpenMP 5.2, 5.4.3 to 5.4.5, 5.5.8)
pub record Roles : Type 0 where
  pub privates : List Variable
  pub firsts : List Variable
  pub lasts : List Variable
  pub conditionals : List Variable
  pub reductions : List (Variable × ReduceOp)

-- no clause names a variable
abbrev pub no_roles : Roles
no_roles = record { privates = []; firsts = []; lasts = []; conditionals = []; reductions = [] }

-- a worksharing loop: its associated loops, its body, and the roles of its variables (OpenMP 5.2, 11.5)
pub record SharedLoop : Type 0 where
  pub loops : List Loop
  pub body : Stmt
  pub roles : Roles

-- a chunk's own copies: each stands as a local, also where the original is at file scope (OpenMP 5.2, 5.3)
abbrev pub with_empty : List Variable → State → State
with_empty [] s = s
with_empty (x ∷ xs) s = with_empty xs (with_local s x Empty)

-- copies that hold what the originals held before the loop
abbrev pub with_copies : List Variable → State → State → State
with_copies [] before s = s
with_copies (x ∷ xs) before s = with_copies xs before (with_local s x (slot_of (look before x [])))

-- copies that hold their operator's identity
abbrev pub with_identities : List (Variable × ReduceOp) → State → State
with_identities [] s = s
with_identities (r ∷ rs) s = with_identities rs (with_local s r.0 (Holds (identity r.1)))

-- the state in which a chunk begins: private and lastprivate variables hold nothing, firstprivate ones the original's value, reduction ones their identity
abbrev pub chunk_start : Roles → State → State
chunk_start roles s =
    with_identities roles.reductions
    (with_copies roles.firsts s (with_empty roles.conditionals (with_empty roles.lasts (with_empty roles.privates s))))

-- the body at one iteration
abbrev pub run_iteration : List Loop → Stmt → Vector → State → Option Effect
run_iteration loops body u s = run body (at_vector loops u s)

-- and at some, one after another: each sees what those before it wrote
abbrev pub run_iterations : List Loop → Stmt → List Vector → State → Option Effect
run_iterations loops body [] s = Some nothing
run_iterations loops body (u ∷ us) s = then_from s (run_iteration loops body u s) (run_iterations loops body us)

-- no local of that number stands
abbrev pub is_outside : Slot → Bool
is_outside Outside = true
is_outside Empty = false
is_outside (Holds n) = false

-- a write to an element, or to a file-scope scalar that has no copy
abbrev pub is_shared_write : State → Write → Bool
is_shared_write s (Declared x v) = false
is_shared_write s (Assigned x is v) = is_outside (s.locals x) && is_there (s.cells x is)

-- an assignment to this variable, whether or not it changes the value
abbrev pub is_update : Variable → Write → Bool
is_update x (Declared y v) = false
is_update x (Assigned y is v) = y == x

-- what a chunk hands over: its element writes in order, each reduction variable's value where an assignment updated it, each lastprivate's value, each conditional one's where an assignment set it, and its text
pub record Piece : Type 0 where
  pub writes : List Write
  pub partials : List (Option ℕ)
  pub lasts : List (Option ℕ)
  pub conditionals : List (Option ℕ)
  pub text : List ℕ

-- what a variable holds at the end, if some assignment set it: then the value is from the last iteration that did
abbrev pub if_updated : List Write → State → Variable → Option ℕ
if_updated writes after x = if list_any (is_update x) writes then look after x [] else None

-- what is handed over of a run from a chunk's start
abbrev pub piece_of : Roles → State → Effect → Piece
piece_of roles start e =
    let after = overwritten start e.writes in
    record {
      writes = filter (is_shared_write start) e.writes;
      partials = map (λ r. if_updated e.writes after r.0) roles.reductions;
      lasts = map (λ x. look after x []) roles.lasts;
      conditionals = map (if_updated e.writes after) roles.conditionals;
      text = e.text;
    }

-- the piece of a chunk that begins in this state
abbrev pub piece_from : SharedLoop → State → List Vector → Option Piece
piece_from l start us = map_option (piece_of l.roles start) (run_iterations l.loops l.body us start)

-- the piece of a chunk, the chunk being its iterations, from the state before the loop
abbrev pub piece : SharedLoop → State → List Vector → Option Piece
piece l state us = piece_from l (chunk_start l.roles state) us
