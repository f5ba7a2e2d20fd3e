-- How the iterations of a chunk are run. (OpenMP 5.2, 5.5.2 and 11.5)
use Rattle.std.specs.Prelude.{ℕ, ◌≡◌, ◌≤◌, List, [], length, take, drop, slice_index}
use Rattle.semantics.specs.Loops.Nest.{Vector}
use Rattle.nest_space.specs.Space.{Turns, vectors}
use Rattle.lower_machine.specs.Machine.{Machine, running}
use Rattle.lower.specs.declared.lowered.LoweredLoop.{LoweredLoop}
use Rattle.overlay.specs.declared.beginning.Start.{Start}
use Rattle.overlay.specs.declared.positions.Order.{Order}
use Rattle.overlay.specs.declared.worker.Work.{Work}
use Rattle.overlay.specs.declared.ending.Told.{Told}
use Rattle.overlay.specs.Positions.{ordered, has_last}
use Rattle.overlay.specs.Walking.{WalksOver}
use Rattle.overlay.specs.Spots.{IsWord, begun_by, back_at_each, reduced_at}
use Rattle.overlay.specs.Ending.{IsTold}

-- the iterations of a chunk, taken in this order
abbrev pub part_of : List Turns → Order → Work → List Vector
part_of ts order work = take work.count (drop work.first (ordered order (vectors ts)))

-- registers that hold the same, of which there may be more, and the same cells
pub record IsCopied (m m' : Machine) : Type 0 where
  pub same : (x : ℕ) → slice_index m'.registers x ≡ slice_index m.registers x
  pub more : length m.registers ≤ length m'.registers
  pub cells : m'.cells ≡ m.cells

-- from where reduction variables took what a chunk begins with, its iterations are run; what they print is kept, what the variables with a role hold then is told, and their cells are put back
pub record IsRun (l : LoweredLoop) (ts : List Turns) (order : Order) (work : Work) (first : Start) (before start : Machine) (told : Told) (cells : List ℕ) : Type 0 where
  pub word : IsWord first
  pub behind : Machine
  pub walks : WalksOver l (part_of ts order work) (running (begun_by first l.roles.reductions.items start) []) (running behind told.text.bytes)
  pub room : length behind.cells ≡ length before.cells
  pub told_of : IsTold l.roles first (has_last order (vectors ts) work) before behind told
  pub back : cells ≡ back_at_each before.cells (reduced_at l.roles.reductions.items) (back_at_each before.cells l.roles.lasts.items behind.cells)

-- the same over copies of the registers
pub record IsRunOver (l : LoweredLoop) (ts : List Turns) (order : Order) (work : Work) (first : Start) (before : Machine) (told : Told) (cells : List ℕ) : Type 0 where
  pub start : Machine
  pub copied : IsCopied before start
  pub runs : IsRun l ts order work first before start told cells
