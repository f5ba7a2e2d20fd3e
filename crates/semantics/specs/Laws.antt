-- The laws of the definitions: each is the contract of a function of this crate.
use Rattle.std.specs.Prelude.{ℕ, ◌≡◌, ◌↔◌, ◌<◌, ◌≤◌, ◌+◌, ◌*◌, ◌^◌, true, List, length, All, Some}
use Rattle.std.specs.List.{list_all}
use Rattle.semantics.specs.Tree.{Variable, Source, Expr, Stmt, Kernel, strip}
use Rattle.semantics.specs.Source.Text.{erase}
use Rattle.semantics.specs.Source.Token.{Token}
use Rattle.semantics.specs.Source.Cuts.{Tokens}
use Rattle.semantics.specs.Source.Grammar.{ReadsText}
use Rattle.semantics.specs.Meaning.State.{State, Write, with_cell}
use Rattle.semantics.specs.Meaning.Value.{value}
use Rattle.semantics.specs.Meaning.Runs.{run, Runs}
use Rattle.semantics.specs.Meaning.Steps.{Steps, effect}
use Rattle.semantics.specs.Loops.Arrangement.{EachOnceBelow}
use Rattle.semantics.specs.Loops.Chunk.{Kind, cut, owner}
use Rattle.semantics.specs.Loops.Operator.{ReduceOp, IsLawful}
use Rattle.semantics.specs.Loops.Nest.{Vector, at_value, values_from, rising_loop, counting}
use Rattle.semantics.specs.Loops.Order.{Distance, is_ahead, among, Sink, Before, level, wave, wave_count}
use Rattle.semantics.specs.Teams.Machine.{Job, Event, IsWhole}
use Rattle.semantics.specs.Teams.WholeRuns.{after, is_by_ticket}

-- erasing again changes nothing
abbrev pub ErasesOnce : Type 0
ErasesOnce = (text : List ℕ) → erase (erase text) ≡ erase text

-- a text's tree without its directive lines is a tree of the erased text
abbrev pub ErasedTextReads : Type 0
ErasedTextReads = (text : List ℕ) (tree : Kernel) → ReadsText text tree → ReadsText (erase text) (strip tree)

-- what a statement writes and prints, and the state that it leaves, are determined by the state before it
abbrev pub RunsAreUnique : Type 0
RunsAreUnique =
    (a : Stmt) (s left left' : State) (writes writes' : List Write) (text text' : List ℕ)
    → Runs a s writes left text → Runs a s writes' left' text' → (writes ≡ writes') × (left ≡ left') × (text ≡ text')

-- the run computed by cases is the run derived by rules
abbrev pub RunsFollowTheRules : Type 0
RunsFollowTheRules =
    (a : Stmt) (s : State) (writes : List Write) (text : List ℕ) → Steps a s writes text ↔ (run a s ≡ Some (effect writes text))

-- writes to two elements may change places
abbrev pub WritesCommute : Type 0
WritesCommute =
    (s : State) (x y : Variable) (is js : List ℕ) (v w : ℕ) → ((x ≡ y) × (is ≡ js) → ⊥)
    → with_cell (with_cell s x is v) y js w ≡ with_cell (with_cell s y js w) x is v

-- no chunk is empty
abbrev pub ChunksHoldIterations : Type 0
ChunksHoldIterations = (kind : Kind) (n workers : ℕ) → All (λ c. 0 < c.count) (cut kind n workers)

-- where the kind fixes who runs a chunk, it is one of the workers
abbrev pub OwnersAreWorkers : Type 0
OwnersAreWorkers =
    (kind : Kind) (n workers c w : ℕ) → 0 < workers → c < length (cut kind n workers) → owner kind c workers ≡ Some w → w < workers

-- each of the nine operators is lawful
abbrev pub OperatorsAreLawful : Type 0
OperatorsAreLawful = (op : ReduceOp) → IsLawful op

-- at the end of a whole list of events of a kind that draws tickets, all chunks have arrived, each once
abbrev pub TicketsArrive : Type 0
TicketsArrive =
    (job : Job) (events : List Event) → is_by_ticket job.kind ≡ true → 0 < job.workers → IsWhole job (after job events)
    → EachOnceBelow (length job.pieces) (after job events).merge.arrived

-- a text has one cut into tokens
abbrev pub CutsAreUnique : Type 0
CutsAreUnique = (text : List ℕ) (ts us : List Token) → Tokens text ts → Tokens text us → ts ≡ us

-- where all sinks lie earlier, each iteration's level is above its sinks'
abbrev pub LevelsLieAboveSinks : Type 0
LevelsLieAboveSinks =
    (space : List Vector) (ds : List Distance) (u v : Vector) → list_all is_ahead ds ≡ true
    → Sink space ds u v → level space ds u < level space ds v

-- and none comes before itself
abbrev pub NothingBeforeItself : Type 0
NothingBeforeItself =
    (space : List Vector) (ds : List Distance) (u : Vector) → list_all is_ahead ds ≡ true → Before space ds u u → ⊥

-- each iteration stands in the wave of its level, which is one of the waves, and in no other
abbrev pub OneWaveEach : Type 0
OneWaveEach =
    (space : List Vector) (ds : List Distance) (u : Vector) → among space u ≡ true
    → (level space ds u < wave_count space ds) × ((i : ℕ) → (among (wave space ds i) u ≡ true) ↔ (i ≡ level space ds u))

-- a rising loop takes the values v, v + s, .. below a fixed bound u, as far as its room goes
abbrev pub RisingLoopsCount : Type 0
RisingLoopsCount =
    (state : State) (x : Variable) (u s m n v : ℕ) (start : Source) (bound : Expr)
    → ((w : ℕ) → value (at_value state x w) bound ≡ Some u) → u + s ≤ 2 ^ 64
    → m ≤ n → ((k : ℕ) → k < m → v + k * s < u) → u ≤ v + m * s
    → values_from n (rising_loop x start bound s) (at_value state x v) ≡ Some (counting v s m)
