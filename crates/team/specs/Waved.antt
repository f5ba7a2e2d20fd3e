-- What a team leaves of a doacross nest, wave by wave. (OpenMP 5.2, 11.5.3, 15.9.6 and 15.10.1)
use Rattle.std.specs.Prelude.{ℕ, ◌≡◌, ◌<◌, ◌≤◌, ◌^◌, List, [], ◌∷◌, length, map, slice_get, Some, All}
use Rattle.semantics.specs.Tree.{Variable, Stmt}
use Rattle.semantics.specs.Meaning.State.{State}
use Rattle.semantics.specs.Meaning.Runs.{Effect}
use Rattle.semantics.specs.Loops.Chunk.{Kind, cut}
use Rattle.semantics.specs.Loops.Joined.{chunked}
use Rattle.semantics.specs.Loops.Nest.{Loop, Vector}
use Rattle.semantics.specs.Loops.Order.{Distance}
use Rattle.semantics.specs.Loops.Piece.{Roles}
use Rattle.law_nests.specs.Walks.{walk}
use Rattle.law_roles.specs.Sharing.{MergesAt}
use Rattle.nest_space.specs.Space.{Turns, vectors}
use Rattle.store.specs.Kept.{Kept}
use Rattle.store.specs.Flat.{values_of}
use Rattle.lower_code.specs.declared.laid.Laid.{Laid}
use Rattle.lower_code.specs.Layout.{shapes_of, cell_at}
use Rattle.lower_machine.specs.Machine.{Fits, machine}
use Rattle.lower.specs.declared.lowered.LoweredLoop.{LoweredLoop}
use Rattle.lower.specs.Lowered.{IsReached, IsSpaceOf}
use Rattle.waves.specs.Wanted.{vector_at, AreWaves}
use Rattle.team_worker.specs.declared.grounds.Grounds.{Grounds}
use Rattle.team_worker.specs.declared.pass.Pass.{Pass}
use Rattle.team_worker.specs.declared.pass.Pass.TheVariants.{Plain, Second, Wave}
use Rattle.team.specs.declared.waving.Reached.{Reached}
use Rattle.team_worker.specs.Ends.{IsCut}

-- wherever the loop is reached with these registers and this store, without reduction and lastprivate variables, and the chunks of the iterations of these numbers, cut so for so many workers, have a run each from there, each object at file scope is as before where no chunk changes it, and else as one leaves it that does
abbrev pub WaveTogether : LoweredLoop → List ℕ → List ℕ → List Kept → List Kept → Kind → ℕ → Type 0
WaveTogether l numbers registers ks ks' kind workers =
    (layout : List Laid) (mark : ℕ) (roles : Roles) (loops : List Loop) (body : Stmt) (outer : State) (us : List Vector) (effects : List Effect)
    → roles.reductions ≡ [] → roles.lasts ≡ []
    → IsReached layout mark roles loops body outer us l registers ks
    → map (λ vs. walk loops body vs outer) (chunked (map (vector_at us) numbers) (cut kind (length numbers) workers)) ≡ map Some effects
    → (x : Variable) (is : List ℕ) → MergesAt outer effects (λ y js. cell_at (shapes_of layout) (values_of ks') y js) x is

-- so a wave leaves it, and a store of the same variables, which hold numbers of 64 bits
pub record WaveLeaves (l : LoweredLoop) (numbers registers : List ℕ) (ks ks' : List Kept) (kind : Kind) (workers : ℕ) : Type 0 where
  pub together : WaveTogether l numbers registers ks ks' kind workers
  pub shape : map (λ k. k.lengths) ks' ≡ map (λ k. k.lengths) ks
  pub words : Fits (machine registers (values_of ks'))
  pub room : length (values_of ks') < 2 ^ 64

-- one wave behind another, each from the store behind the one before
abbrev pub AreWaved : LoweredLoop → List (List ℕ) → List ℕ → List Kept → List Kept → Kind → ℕ → Type 0
AreWaved l [] registers ks ks' kind workers = ks' ≡ ks
AreWaved l (numbers ∷ waves) registers ks ks' kind workers = (between : List Kept) × WaveLeaves l numbers registers ks between kind workers × AreWaved l waves registers between ks' kind workers

-- the waves of a nest's iterations by these sinks, in their order
pub record LeavesInWaves (l : LoweredLoop) (sinks : List Distance) (registers : List ℕ) (ks ks' : List Kept) (kind : Kind) (workers : ℕ) : Type 0 where
  pub space : List Turns
  pub of : IsSpaceOf l registers space
  pub numbers : List (List ℕ)
  pub are : AreWaves (vectors space) sinks numbers
  pub waved : AreWaved l numbers registers ks ks' kind workers

-- registers of a loop where it is reached, and the space that it has there
pub record IsReachedBy (l : LoweredLoop) (r : Reached) : Type 0 where
  pub loops : length r.space ≡ length l.loops.items
  pub of : IsSpaceOf l r.registers.items r.space
  pub few : length (vectors r.space) ≤ 2 ^ 24

-- numbers of some iterations, no more than there are
pub record IsWaveIn (us : List Vector) (numbers : List ℕ) : Type 0 where
  pub numbers_of : All (λ k. k < length us) numbers
  pub most : length numbers ≤ length us

abbrev pub AreWavesIn : List Vector → List (List ℕ) → Type 0
AreWavesIn us waves = (i : ℕ) (numbers : List ℕ) → slice_get waves i ≡ Some numbers → IsWaveIn us numbers

-- a pass over the iterations of these numbers
abbrev pub IsWaveOf : List ℕ → Pass → Type 0
IsWaveOf numbers Plain = ⊥
IsWaveOf numbers (Second starts) = ⊥
IsWaveOf numbers (Wave listed) = listed.items ≡ numbers

-- where a nest is reached, of what a wave of it is run from
abbrev pub standing : Grounds → Reached
standing grounds = record { registers = grounds.registers; space = grounds.space }

-- what a wave is run from, cut so for so many workers
pub record AreOfWave (r : Reached) (numbers : List ℕ) (kind : Kind) (workers : ℕ) (grounds : Grounds) : Type 0 where
  pub registers : grounds.registers ≡ r.registers
  pub space : grounds.space ≡ r.space
  pub pass : IsWaveOf numbers grounds.pass
  pub chunks : grounds.chunks ≡ cut kind (length numbers) workers
  pub cut_is : IsCut (length numbers) grounds.chunks
