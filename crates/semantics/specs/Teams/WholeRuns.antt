-- What holds of the workers' machine after every list of events, each claim under a name of its own.
use Rattle.std.specs.Prelude.{ℕ, Bool, true, false, ◌≡◌, ◌≤◌, ◌<◌, List, [], ◌∷◌, ◌++◌, length, map, flat_map, Some, slice_get, Contains}
use Rattle.semantics.specs.Tree.{Variable}
use Rattle.semantics.specs.Meaning.State.{State, look}
use Rattle.semantics.specs.Meaning.Value.{map_option}
use Rattle.semantics.specs.Meaning.Places.{below}
use Rattle.semantics.specs.Loops.Arrangement.{EachOnceBelow, times, once_below}
use Rattle.semantics.specs.Loops.Nest.{Vector}
use Rattle.semantics.specs.Loops.Chunk.{Kind, PlainStatic, Static, Dynamic, Guided, cut}
use Rattle.semantics.specs.Loops.Operator.{ReduceOp, combined_all}
use Rattle.semantics.specs.Loops.Piece.{Roles, SharedLoop, Piece, piece}
use Rattle.semantics.specs.Loops.Joined.{Joined, given}
use Rattle.semantics.specs.Loops.Scan.{Scanned, scan_partials, second_pieces}
use Rattle.semantics.specs.Teams.Machine.{World, Merge, Event, Stop, Job, begin, happen, no_merge, merge_all, merged_state, merged_text, IsWhole}

-- the world after a list of events, from the loop's beginning
abbrev pub after : Job → List Event → World
after job events = happen job (begin job) events

-- the chunks that some worker took: they arrived, or a worker holds them
abbrev pub out : Job → World → List ℕ
out job s = s.merge.arrived ++ flat_map s.held (below job.workers)

-- kinds that draw tickets
abbrev pub is_by_ticket : Kind → Bool
is_by_ticket PlainStatic = false
is_by_ticket (Static k) = false
is_by_ticket (Dynamic k) = true
is_by_ticket (Guided k) = true

-- a job has workers, and the chunks of some cut for them
pub record IsJob (job : Job) : Type 0 where
  pub some_worker : 0 < job.workers
  pub iterations : ℕ
  pub chunks : length job.pieces ≡ length (cut job.kind iterations job.workers)

-- tickets are drawn once each and none is left out; a worker meets the end only when all are drawn
pub record TicketsOnce (job : Job) (s : World) : Type 0 where
  pub at_most : s.next ≤ length job.pieces
  pub each_once : EachOnceBelow s.next (out job s)
  pub ended : (w : ℕ) → s.ended w ≡ true → s.next ≡ length job.pieces

-- after every list of events
abbrev pub DrawsEachOnce : Type 0
DrawsEachOnce = (job : Job) (events : List Event) → is_by_ticket job.kind ≡ true → TicketsOnce job (after job events)

-- for every kind: no chunk is taken twice, and so none arrives twice
abbrev pub TakesEachOnce : Type 0
TakesEachOnce = (job : Job) (events : List Event) (c : ℕ) → times c (out job (after job events)) ≤ once_below c (length job.pieces)

-- nor does one arrive twice
abbrev pub ArrivesOnce : Type 0
ArrivesOnce = (job : Job) (events : List Event) (c : ℕ) → times c (after job events).merge.arrived ≤ once_below c (length job.pieces)

-- each stands beside its chunk's number
abbrev pub AreOwn : Job → List (ℕ × Piece) → Type 0
AreOwn job [] = Unit {0}
AreOwn job (p ∷ ps) = (slice_get job.pieces p.0 ≡ Some p.1) × AreOwn job ps

-- the record is the merge of exactly the pieces that arrived, in their order
pub record MergesArrived (job : Job) (m : Merge) : Type 0 where
  pub pieces : List (ℕ × Piece)
  pub numbers : m.arrived ≡ map (λ p. p.0) pieces
  pub own : AreOwn job pieces
  pub merge : m ≡ merge_all job.ops (no_merge job.ops) pieces

-- after every list of events
abbrev pub MergesWhatArrived : Type 0
MergesWhatArrived = (job : Job) (events : List Event) → MergesArrived job (after job events).merge

-- the flag is raised exactly if some worker stopped, and who saw it raised saw what is so
abbrev pub FlagIsTrue : Type 0
FlagIsTrue =
    (job : Job) (events : List Event)
    → ((after job events).raised ≡ true → (w : ℕ) × (w < job.workers) × Contains events (Stop w))
    × ((w : ℕ) → w < job.workers → Contains events (Stop w) → ((after job events).raised ≡ true) × ((after job events).seen w ≡ true))
    × ((w : ℕ) → (after job events).seen w ≡ true → (after job events).raised ≡ true)

-- at the end of a whole list all chunks have arrived, each once
abbrev pub WholeListsArrive : Type 0
WholeListsArrive =
    (job : Job) (events : List Event) → IsJob job → IsWhole job (after job events)
    → EachOnceBelow (length job.pieces) (after job events).merge.arrived

-- every whole list ends in the join of all chunks in the order of their arrival
abbrev pub WholeListsJoin : Type 0
WholeListsJoin =
    (job : Job) (events : List Event) (loop : SharedLoop) (state : State) (chunks : List (List Vector))
    → IsJob job → job.ops ≡ map (λ r. r.1) loop.roles.reductions → map (piece loop state) chunks ≡ map Some job.pieces
    → IsWhole job (after job events)
    → Joined loop state chunks (after job events).merge.arrived
    (merged_state loop.roles state (length job.pieces) (after job events).merge)
    (merged_text (length job.pieces) (after job events).merge)

-- and of a scan's second pass, which merges no partials: the scan variable has its final value from the first pass
abbrev pub without_reductions : Roles → Roles
without_reductions roles = record roles { reductions = [] }

-- every whole list of a second pass ends in the scan
abbrev pub WholeListsScan : Type 0
WholeListsScan =
    (job : Job) (events : List Event) (loop : SharedLoop) (x : Variable) (op : ReduceOp) (state : State) (chunks : List (List Vector)) (firsts : List Piece)
    → IsJob job → job.ops ≡ [] → loop.roles.reductions ≡ (x, op) ∷ []
    → map (piece loop state) chunks ≡ map Some firsts
    → second_pieces loop x op state (scan_partials firsts) 0 chunks ≡ map Some job.pieces
    → IsWhole job (after job events)
    → Scanned loop x op state chunks (after job events).merge.arrived
    (given (merged_state (without_reductions loop.roles) state (length job.pieces) (after job events).merge) x
    (map_option (λ v. combined_all op v (scan_partials firsts)) (look state x [])))
    (merged_text (length job.pieces) (after job events).merge)

-- all of it, for every job and every list of events
abbrev pub EveryOrder : Type 0
EveryOrder = DrawsEachOnce × TakesEachOnce × MergesWhatArrived × WholeListsArrive × WholeListsJoin × WholeListsScan × FlagIsTrue
