-- Places for what the workers of a loop leave.
use Rattle.std.specs.Prelude.{ℕ, ◌≡◌, ◌≤◌, ◌^◌, List, length, min, slice_get, All, Option, Some}
use Rattle.std.specs.Global.{Box}
use Rattle.semantics.specs.Loops.Chunk.{Chunk, cut}
use Rattle.draw.specs.Tickets.{fresh}
use Rattle.nest_space.specs.Space.{vectors}
use Rattle.schedule.specs.Part.{static_kind}
use Rattle.store.specs.Kept.{Kept}
use Rattle.lower.specs.declared.lowered.LoweredLoop.{LoweredLoop}
use Rattle.team_worker.specs.declared.way.Draw.{Draw}
use Rattle.team_worker.specs.declared.way.Way.{Way}
use Rattle.team_worker.specs.declared.way.Way.TheVariants.{Dealt, Drawn}
use Rattle.team_worker.specs.declared.grounds.Grounds.{Grounds}
use Rattle.team_worker.specs.declared.pass.Pass.{Pass}
use Rattle.team_worker.specs.declared.place.End.{End}
use Rattle.team_worker.specs.declared.place.End.TheVariants.{Share, Draws, Spare}
use Rattle.team_worker.specs.Ends.{IsSplit, IsAccount, IsFinished}
use Rattle.team_worker.specs.Starts.{taken_in}
use Rattle.team_worker.specs.Dealt.{own_numbers}

-- what a place is made for: a loop where it is reached, its chunks and how they begin, how these come to so many workers, and the number of one of them
pub record Aim : Type 0 where
  pub lowered : LoweredLoop
  pub registers : List ℕ
  pub store : List Kept
  pub pass : Pass
  pub chunks : List Chunk
  pub way : Way
  pub workers : ℕ
  pub number : ℕ

-- what this worker leaves, by the way that chunks come to it; memory may be any
abbrev pub IsEndBy : Aim → Way → End → Type 0
IsEndBy a way (Spare log) = Unit
IsEndBy a (Dealt size) (Share log) = IsAccount a.lowered a.registers a.store a.pass a.chunks (own_numbers size (length a.chunks) a.workers a.number) log.value
IsEndBy a (Drawn draws) (Draws f) = IsFinished a.lowered a.registers a.store a.pass a.chunks draws.value.drawing f
IsEndBy a _ _ = ⊥

abbrev pub IsEnd : Aim → End → Type 0
IsEnd a e = IsEndBy a a.way e

-- a place for each worker
abbrev pub AreFor : Aim → List Aim → Type 0
AreFor a places = (k : ℕ) (p : Aim) → slice_get places k ≡ Some p → p ≡ record a { number = k }

-- what the places of a loop are made for, but for their numbers
abbrev pub aim_of : LoweredLoop → Grounds → List Kept → Way → ℕ → Aim
aim_of l grounds ks way workers =
    record {
      lowered = l;
      registers = grounds.registers.items;
      store = ks;
      pass = grounds.pass;
      chunks = grounds.chunks;
      way = way;
      workers = workers;
      number = 0;
    }

-- how many iterations are taken
abbrev pub count_taken : Grounds → ℕ
count_taken grounds = length (taken_in grounds.pass (vectors grounds.space))

-- the space is that of this loop, and the chunks are a cut of the iterations that are taken
abbrev pub AreSplit : LoweredLoop → Grounds → Type 0
AreSplit l grounds = IsSplit l grounds.registers.items grounds.pass grounds.space grounds.chunks

-- chunks of so many iterations come to so many workers as their cut asks: dealt ones are those of their kind, and drawn ones have a drawing with a free seat for each worker
pub record IsWay (way : Way) (count : ℕ) (chunks : List Chunk) (workers : ℕ) : Type 0 where
  pub cut : (size : Option ℕ) → way ≡ Dealt size → chunks ≡ cut (static_kind size) count workers
  pub some : (k : ℕ) → way ≡ Dealt (Some k) → (1 ≤ k) × (k ≤ 2 ^ 24)
  pub drawn : (draw : Box Draw) → way ≡ Drawn draw → draw.value.drawing.count ≡ length chunks
  pub seats : (draw : Box Draw) → way ≡ Drawn draw → (draw.value.drawing.seats ≡ workers) × All (λ s. s ≡ fresh draw.value.drawing) draw.value.seats.items

-- how many workers have a place: of dealt chunks only those that come to one
abbrev pub places_of : Way → ℕ → ℕ → ℕ
places_of (Dealt size) count workers = min count workers
places_of (Drawn draw) count workers = workers

-- the places of a loop's workers, of whom there are some, and how chunks came to them
pub record AreLeft (a : Aim) (count : ℕ) (way : Way) (places : List Aim) : Type 0 where
  pub way_is : a.way ≡ way
  pub comes : IsWay way count a.chunks a.workers
  pub some : 1 ≤ a.workers
  pub all : length places ≡ places_of way (length a.chunks) a.workers
  pub made : AreFor a places
