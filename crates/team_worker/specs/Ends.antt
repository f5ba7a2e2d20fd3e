-- What the workers' ends are, and what comes of them together.
use Rattle.std.specs.Prelude.{ℕ, ◌≡◌, ◌+◌, ◌<◌, ◌≤◌, ◌^◌, true, List, [], length, map, flat_map, slice_get, All, Some}
use Rattle.semantics.specs.Tree.{Variable, Stmt}
use Rattle.semantics.specs.Meaning.State.{State, look, overwritten}
use Rattle.semantics.specs.Meaning.Runs.{Effect}
use Rattle.semantics.specs.Meaning.Places.{below}
use Rattle.semantics.specs.Loops.Chunk.{Chunk, Kind, cut, chunk_iterations}
use Rattle.semantics.specs.Loops.Arrangement.{times, EachOnceBelow}
use Rattle.semantics.specs.Loops.Joined.{chunked}
use Rattle.semantics.specs.Loops.Nest.{Loop, Vector}
use Rattle.semantics.specs.Loops.Piece.{Roles}
use Rattle.draw.specs.Tickets.{DrawingName, SeatState, all_tickets}
use Rattle.nest_space.specs.Space.{Turns, vectors}
use Rattle.reduce.specs.Partial.{partial_of}
use Rattle.store.specs.Kept.{Kept}
use Rattle.lower_code.specs.declared.laid.Laid.{Laid}
use Rattle.lower.specs.declared.lowered.LoweredLoop.{LoweredLoop}
use Rattle.lower.specs.Lowered.{IsReached, IsSpaceOf}
use Rattle.overlay.specs.declared.positions.Order.{Order}
use Rattle.overlay.specs.declared.worker.Piece.{Piece}
use Rattle.overlay.specs.Chunks.{IsChunkFrom, ChangeOnly}
use Rattle.team_worker.specs.declared.job.Job.{Job}
use Rattle.team_worker.specs.declared.pass.Pass.{Pass}
use Rattle.team_worker.specs.declared.worker.Finished.{Finished}
use Rattle.team_worker.specs.Starts.{taken_in, AreTakenFrom, IsOrderOf, TellsOf, start_at, started_in, HaveRuns}
use Rattle.team_log.specs.Logged.{Leaving, Account}

-- chunks that hold some iterations each, and are all of them, in order
pub record IsCut (n : ℕ) (chunks : List Chunk) : Type 0 where
  pub joined : flat_map chunk_iterations chunks ≡ below n
  pub filled : All (λ c. 0 < c.count) chunks

-- a space is that of a loop wherever it is reached with these registers, and chunks are a cut of the iterations that a pass takes
pub record IsSplit (l : LoweredLoop) (registers : List ℕ) (pass : Pass) (space : List Turns) (chunks : List Chunk) : Type 0 where
  pub loops : length space ≡ length l.loops.items
  pub iterations : IsSpaceOf l registers space
  pub from : AreTakenFrom pass (vectors space)
  pub few : length (taken_in pass (vectors space)) ≤ 2 ^ 24
  pub cut : IsCut (length (taken_in pass (vectors space))) chunks

abbrev pub IsReady : Job → Type 0
IsReady job = IsSplit job.lowered.now job.registers.now job.pass.now job.space.now job.chunks.now

-- what the chunk of this number leaves in this pass, from these registers and this store
pub record IsLeaving (l : LoweredLoop) (registers : List ℕ) (ks : List Kept) (pass : Pass) (chunks : List Chunk) (c : Leaving) : Type 0 where
  pub chunk : Chunk
  pub there : slice_get chunks c.number ≡ Some chunk
  pub piece : Piece
  pub order : Order
  pub order_is : IsOrderOf pass order
  pub leaves : IsChunkFrom (start_at pass c.number) order l registers ks (record { chunk = record { 0 = c.number }; first = chunk.first; count = chunk.count }) piece
  pub changes_are : c.changes ≡ piece.changes
  pub partials_are : c.partials ≡ map partial_of piece.partials.items
  pub text_is : c.text ≡ piece.text.bytes
  pub only : ChangeOnly ks c.changes

-- these are the values of lastprivate variables behind the last of these effects, if its chunk is among those of these numbers, and else there are none
pub record AreLastValues (roles : Roles) (start : ℕ → State) (effects : List Effect) (numbers lasts : List ℕ) : Type 0 where
  pub told : (number : ℕ) (e : Effect) → number + 1 ≡ length effects → slice_get effects number ≡ Some e → 0 < times number numbers
      → (k : ℕ) (x : Variable) (v : ℕ) → slice_get roles.lasts k ≡ Some x → look (overwritten (start number) e.writes) x [] ≡ Some v → slice_get lasts k ≡ Some v
  pub other : ((number : ℕ) → number + 1 ≡ length effects → times number numbers ≡ 0) → lasts ≡ []

-- so they are wherever the loop is reached, and its chunks have a run each
abbrev pub TellLasts : LoweredLoop → List ℕ → List Kept → Pass → List Chunk → List ℕ → List ℕ → Type 0
TellLasts l registers ks pass chunks numbers lasts =
    (layout : List Laid) (mark : ℕ) (roles : Roles) (loops : List Loop) (body : Stmt) (outer : State) (us : List Vector) (effects : List Effect)
    → IsReached layout mark roles loops body outer us l registers ks → TellsOf pass roles → HaveRuns loops body (started_in pass roles outer) (chunked (taken_in pass us) chunks) effects
    → AreLastValues roles (started_in pass roles outer) effects numbers lasts

-- the account of the chunks of these numbers, in their order
pub record IsAccount (l : LoweredLoop) (registers : List ℕ) (ks : List Kept) (pass : Pass) (chunks : List Chunk) (numbers : List ℕ) (a : Account) : Type 0 where
  pub numbers_are : map (λ c. c.number) a.chunks ≡ numbers
  pub each : All (IsLeaving l registers ks pass chunks) a.chunks
  pub lasts : TellLasts l registers ks pass chunks numbers a.lasts

abbrev pub IsAccountOf : Job → List ℕ → Account → Type 0
IsAccountOf job numbers a = IsAccount job.lowered.now job.registers.now job.store.now job.pass.now job.chunks.now numbers a

-- a worker that met the end has the account of the tickets that it drew
pub record IsFinished (l : LoweredLoop) (registers : List ℕ) (ks : List Kept) (pass : Pass) (chunks : List Chunk) (of : DrawingName) (f : Finished) : Type 0 where
  pub seat : f.seat.of ≡ of
  pub ended : f.seat.ended ≡ true
  pub account : IsAccount l registers ks pass chunks f.seat.tickets f.log.value

-- seats of a drawing, each of which met its end, and the account of the chunks that they drew
pub record AreTaken (l : LoweredLoop) (registers : List ℕ) (ks : List Kept) (pass : Pass) (chunks : List Chunk) (of : DrawingName) (seats : List SeatState) (a : Account) : Type 0 where
  pub named : All (λ s. s.of ≡ of) seats
  pub ended : All (λ s. s.ended ≡ true) seats
  pub account : IsAccount l registers ks pass chunks (all_tickets seats) a

-- all seats of a drawing, each of which met its end
pub record AreBack (of : DrawingName) (seats : List SeatState) : Type 0 where
  pub some : 1 ≤ of.seats
  pub all : length seats ≡ of.seats
  pub named : All (λ s. s.of ≡ of) seats
  pub ended : All (λ s. s.ended ≡ true) seats

-- the account of the chunks that these seats drew, of all of these chunks
pub record AreDrawn (l : LoweredLoop) (registers : List ℕ) (ks : List Kept) (pass : Pass) (chunks : List Chunk) (of : DrawingName) (seats : List SeatState) (a : Account) : Type 0 where
  pub count : of.count ≡ length chunks
  pub account : IsAccount l registers ks pass chunks (all_tickets seats) a

-- the account of all of these chunks, each once
pub record AreAll (l : LoweredLoop) (registers : List ℕ) (ks : List Kept) (pass : Pass) (chunks : List Chunk) (a : Account) : Type 0 where
  pub numbers : List ℕ
  pub account : IsAccount l registers ks pass chunks numbers a
  pub once : EachOnceBelow (length chunks) numbers

-- the account of all chunks of a loop in this pass, cut so for so many workers
pub record AreOfLoop (l : LoweredLoop) (registers : List ℕ) (ks : List Kept) (pass : Pass) (kind : Kind) (workers : ℕ) (a : Account) : Type 0 where
  pub space : List Turns
  pub of : IsSpaceOf l registers space
  pub cut_is : IsCut (length (taken_in pass (vectors space))) (cut kind (length (taken_in pass (vectors space))) workers)
  pub all : AreAll l registers ks pass (cut kind (length (taken_in pass (vectors space))) workers) a
