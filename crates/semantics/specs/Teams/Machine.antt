-- The workers of a loop as a machine over lists of events, each one atomic step of one worker.
use Rattle.std.specs.Prelude.{ℕ, Bool, true, false, ◌≡◌, ◌==◌, ◌||◌, ◌+◌, ◌<◌, nat_lt, if◌then◌else◌, List, [], ◌∷◌, ◌++◌, length, map, filter_map, Option, Some, None, slice_get, remove, filter}
use Rattle.semantics.specs.Tree.{Variable}
use Rattle.semantics.specs.Meaning.State.{State, Write, overwritten, look}
use Rattle.semantics.specs.Meaning.Value.{map_option}
use Rattle.semantics.specs.Meaning.Places.{below}
use Rattle.semantics.specs.Loops.Chunk.{Kind, PlainStatic, Static, Dynamic, Guided, owner}
use Rattle.semantics.specs.Loops.Operator.{ReduceOp, apply, combined}
use Rattle.semantics.specs.Loops.Piece.{Roles, Piece}
use Rattle.semantics.specs.Loops.Joined.{given, with_last_values, joined_text}

-- what has been merged: the chunks that arrived, their writes and their updated partials, in order of arrival, and each piece beside its chunk's number
pub record Merge : Type 0 where
  pub arrived : List ℕ
  pub writes : List Write
  pub partials : List (Option ℕ)
  pub pieces : List (ℕ × Piece)

-- the next ticket, the chunks that each worker took and those that it holds, who met the end, the merge, the flag, and who saw it raised
pub record World : Type 0 where
  pub next : ℕ
  pub taken : ℕ → ℕ
  pub held : ℕ → List ℕ
  pub ended : ℕ → Bool
  pub merge : Merge
  pub raised : Bool
  pub seen : ℕ → Bool

-- a worker draws, hands in one of the pieces that it holds, stops all, or looks at the flag
pub data Event : Type 0 where
  Draw : (worker : ℕ) → Event
  Arrive : (worker : ℕ) → (which : ℕ) → Event
  Stop : (worker : ℕ) → Event
  Look : (worker : ℕ) → Event

-- a function with one value changed
abbrev pub at : {A : Type 0} → (ℕ → A) → ℕ → A → ℕ → A
at f w v x = if x == w then v else f x

-- a partial combined with another; what was not updated is left out
abbrev pub merged_partial : ReduceOp → Option ℕ → Option ℕ → Option ℕ
merged_partial op None b = b
merged_partial op (Some a) None = Some a
merged_partial op (Some a) (Some b) = Some (apply op a b)

-- each operator has its own
abbrev pub merged_partials : List ReduceOp → List (Option ℕ) → List (Option ℕ) → List (Option ℕ)
merged_partials (op ∷ ops) (a ∷ as') (b ∷ bs) = merged_partial op a b ∷ merged_partials ops as' bs
merged_partials [] as' bs = []
merged_partials (op ∷ ops) [] bs = []
merged_partials (op ∷ ops) (a ∷ as') [] = []

-- one piece more
abbrev pub merge_one : List ReduceOp → Merge → ℕ → Piece → Merge
merge_one ops m c p =
    record {
      arrived = m.arrived ++ c ∷ [];
      writes = m.writes ++ p.writes;
      partials = merged_partials ops m.partials p.partials;
      pieces = m.pieces ++ (c, p) ∷ [];
    }

-- a chunk that nobody owns is anyone's
abbrev pub is_mine : ℕ → Option ℕ → Bool
is_mine w None = true
is_mine w (Some v) = v == w

-- the chunks of a worker, for the kinds that fix them
abbrev pub own_chunks : Kind → ℕ → ℕ → ℕ → List ℕ
own_chunks kind count workers w = filter (λ c. is_mine w (owner kind c workers)) (below count)

-- what a loop has: its kind, its workers, its operators, and the pieces of its chunks
pub record Job : Type 0 where
  pub kind : Kind
  pub workers : ℕ
  pub ops : List ReduceOp
  pub pieces : List Piece

-- nothing has arrived
abbrev pub no_merge : List ReduceOp → Merge
no_merge ops = record { arrived = []; writes = []; partials = map (λ op. None) ops; pieces = [] }

-- a loop begins: nothing is taken, and nothing has arrived
abbrev pub begin : Job → World
begin job =
    record {
      next = 0;
      taken = λ w. 0;
      held = λ w. [];
      ended = λ w. false;
      merge = no_merge job.ops;
      raised = false;
      seen = λ w. false;
    }

-- a worker gets a chunk, or meets the end
abbrev pub got : World → ℕ → Option ℕ → World
got s w None = record s { ended = at s.ended w true }
got s w (Some c) = record s { held = at s.held w (s.held w ++ c ∷ []); taken = at s.taken w (s.taken w + 1) }

-- the ticket that is drawn, if one is left, and the next one then
abbrev pub ticket_of : ℕ → ℕ → Option ℕ
ticket_of next count = if nat_lt next count then Some next else None

-- and the next ticket then
abbrev pub next_after : ℕ → ℕ → ℕ
next_after next count = if nat_lt next count then next + 1 else next

-- a worker draws a ticket
abbrev pub ticket : World → ℕ → ℕ → World
ticket s w count = record (got s w (ticket_of s.next count)) { next = next_after s.next count }

-- a ticket is shared by all; a worker's own next chunk is shared by none
abbrev pub drawn : Job → Kind → World → ℕ → World
drawn job PlainStatic s w = got s w (slice_get (own_chunks PlainStatic (length job.pieces) job.workers w) (s.taken w))
drawn job (Static k) s w = got s w (slice_get (own_chunks (Static k) (length job.pieces) job.workers w) (s.taken w))
drawn job (Dynamic k) s w = ticket s w (length job.pieces)
drawn job (Guided k) s w = ticket s w (length job.pieces)

-- a held piece goes into the merge
abbrev pub arrived : Job → World → ℕ → ℕ → Option ℕ → Option Piece → World
arrived job s w i (Some c) (Some p) = record s { held = at s.held w (remove (s.held w) i); merge = merge_one job.ops s.merge c p }
arrived job s w i (Some c) None = s
arrived job s w i None p = s

-- a chunk's piece
abbrev pub piece_at : Job → Option ℕ → Option Piece
piece_at job None = None
piece_at job (Some c) = slice_get job.pieces c

-- whose event it is
abbrev pub worker_of : Event → ℕ
worker_of (Draw w) = w
worker_of (Arrive w i) = w
worker_of (Stop w) = w
worker_of (Look w) = w

-- what a worker's event does; one that met the end draws no more
abbrev pub does : Job → World → Event → World
does job s (Draw w) = if s.ended w then s else drawn job job.kind s w
does job s (Arrive w i) = arrived job s w i (slice_get (s.held w) i) (piece_at job (slice_get (s.held w) i))
does job s (Stop w) = record s { raised = true; seen = at s.seen w true }
does job s (Look w) = record s { seen = at s.seen w (s.raised || s.seen w) }

-- one event; there are only so many workers
abbrev pub happens : Job → World → Event → World
happens job s e = if nat_lt (worker_of e) job.workers then does job s e else s

-- events one after another
abbrev pub happen : Job → World → List Event → World
happen job s [] = s
happen job s (e ∷ es) = happen job (happens job s e) es

-- the record of pieces in an order
abbrev pub merge_all : List ReduceOp → Merge → List (ℕ × Piece) → Merge
merge_all ops m [] = m
merge_all ops m (p ∷ ps) = merge_all ops (merge_one ops m p.0 p.1) ps

-- the pieces by chunk number, 0 .. count - 1, whatever the order of their arrival
abbrev pub numbered : List (ℕ × Piece) → ℕ → Option Piece
numbered [] c = None
numbered (p ∷ ps) c = if p.0 == c then Some p.1 else numbered ps c

-- those of the chunks 0 .. count - 1
abbrev pub by_number : ℕ → Merge → List Piece
by_number count m = filter_map (numbered m.pieces) (below count)

-- each reduction variable: its value before, combined with what was merged
abbrev pub with_merged : List (Variable × ReduceOp) → List (Option ℕ) → State → State → State
with_merged (r ∷ rs) (p ∷ ps) before s = with_merged rs ps before (given s r.0 (map_option (λ v. combined r.1 v p) (look before r.0 [])))
with_merged [] ps before s = s
with_merged (r ∷ rs) [] before s = s

-- the state and the text behind a loop of so many chunks, from the merge alone
abbrev pub merged_state : Roles → State → ℕ → Merge → State
merged_state roles before count m =
    with_last_values roles (by_number count m)
    (with_merged roles.reductions m.partials before (overwritten before m.writes))

-- the texts in chunk order
abbrev pub merged_text : ℕ → Merge → List ℕ
merged_text count m = joined_text (by_number count m)

-- every worker met the end and holds nothing
abbrev pub IsWhole : Job → World → Type 0
IsWhole job s = (w : ℕ) → w < job.workers → (s.ended w ≡ true) × (s.held w ≡ [])
