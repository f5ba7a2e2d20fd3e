-- What one worker has of a loop whose kind fixes who runs a chunk.
use Rattle.std.specs.Prelude.{ℕ, ◌≡◌, ◌<◌, false, List, length, flat_map, Option, Some, None, slice_get}
use Rattle.std.specs.Option.{option_and_then}
use Rattle.semantics.specs.Meaning.Places.{below}
use Rattle.semantics.specs.Loops.Arrangement.{EachOnceBelow}
use Rattle.semantics.specs.Loops.Chunk.{Chunk, Kind, PlainStatic, Static, Dynamic, Guided, cut}
use Rattle.semantics.specs.Teams.Machine.{own_chunks}
use Rattle.semantics.specs.Teams.WholeRuns.{is_by_ticket}

-- a loop's kind, its iterations and its workers, and one of these
pub record Part : Type 0 where
  pub kind : Kind
  pub iterations : ℕ
  pub workers : ℕ
  pub worker : ℕ

-- static of a size, or plain static
abbrev pub static_kind : Option ℕ → Kind
static_kind None = PlainStatic
static_kind (Some size) = Static size

-- the size of a kind that is static
abbrev pub size_of : Kind → Option ℕ
size_of PlainStatic = None
size_of (Static size) = Some size
size_of (Dynamic size) = None
size_of (Guided size) = None

-- all chunks of the loop
abbrev pub chunks_of_loop : Part → List Chunk
chunks_of_loop p = cut p.kind p.iterations p.workers

-- the numbers of this worker's chunks, in order
abbrev pub own_numbers : Part → List ℕ
own_numbers p = own_chunks p.kind (length (chunks_of_loop p)) p.workers p.worker

-- this worker's chunk j, counted from 0, if it has so many
abbrev pub own_chunk : Part → ℕ → Option Chunk
own_chunk p j = option_and_then (λ number. slice_get (chunks_of_loop p) number) (slice_get (own_numbers p) j)

-- of a kind that fixes who runs a chunk, the workers' own chunks are all chunks, each once
abbrev pub WorkersShareChunks : Type 0
WorkersShareChunks =
    (kind : Kind) (n workers : ℕ) → is_by_ticket kind ≡ false → 0 < workers
    → EachOnceBelow (length (cut kind n workers)) (flat_map (own_chunks kind (length (cut kind n workers)) workers) (below workers))
