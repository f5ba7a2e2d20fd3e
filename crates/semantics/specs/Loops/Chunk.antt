-- The chunks of a worksharing loop. (OpenMP 5.2, 11.5.3)
use Rattle.std.specs.Prelude.{ℕ, zero, suc, ◌≡◌, ◌<◌, ◌≤◌, length, flat_map, ◌+◌, ◌-◌, ◌/◌, ◌%◌, min, max, nat_lt, if◌then◌else◌, List, [], ◌∷◌, map, Option, Some, None}
use Rattle.semantics.specs.Meaning.Places.{below}

-- iterations first, first + 1, .., as many as count
pub record Chunk : Type 0 where
  pub first : ℕ
  pub count : ℕ

-- static, and static, dynamic and guided of a size of at least 1
pub data Kind : Type 0 where
  PlainStatic : Kind
  Static : (size : ℕ) → Kind
  Dynamic : (size : ℕ) → Kind
  Guided : (size : ℕ) → Kind

-- chunks of these sizes, one after another, without the empty ones
abbrev pub sized : ℕ → List ℕ → List Chunk
sized first [] = []
sized first (zero ∷ sizes) = sized first sizes
sized first (suc n ∷ sizes) = record { first = first; count = suc n } ∷ sized (first + suc n) sizes

-- the sizes of a cut: each as the rule says of what is left; fuel is at least the number of iterations
abbrev pub sizes_by : (ℕ → ℕ) → ℕ → ℕ → List ℕ
sizes_by rule zero left = []
sizes_by rule (suc fuel) zero = []
sizes_by rule (suc fuel) (suc left) = let n = min (suc left) (rule (suc left)) in n ∷ sizes_by rule fuel (suc left - n)

-- n / p, rounded up
abbrev pub ceiling : ℕ → ℕ → ℕ
ceiling n p = (n + p - 1) / p

-- of n = q * P + r iterations, the workers below r get q + 1 and the others q
abbrev pub share : ℕ → ℕ → ℕ → ℕ
share n workers w = if nat_lt w (n % workers) then n / workers + 1 else n / workers

-- how many iterations each chunk has; guided takes of what is left the workers' share, and the size at least
abbrev pub sizes : Kind → ℕ → ℕ → List ℕ
sizes PlainStatic n workers = map (share n workers) (below workers)
sizes (Static k) n workers = sizes_by (λ left. k) n n
sizes (Dynamic k) n workers = sizes_by (λ left. k) n n
sizes (Guided k) n workers = sizes_by (λ left. max k (ceiling left workers)) n n

-- the chunks of n iterations for so many workers, in order
abbrev pub cut : Kind → ℕ → ℕ → List Chunk
cut kind n workers = sized 0 (sizes kind n workers)

-- the iterations of a chunk
abbrev pub chunk_iterations : Chunk → List ℕ
chunk_iterations c = map (λ k. c.first + k) (below c.count)

-- who runs chunk number c, for the kinds that fix it
abbrev pub owner : Kind → ℕ → ℕ → Option ℕ
owner PlainStatic c workers = Some c
owner (Static k) c workers = Some (c % workers)
owner (Dynamic k) c workers = None
owner (Guided k) c workers = None

-- a size that a schedule may have
abbrev pub IsSized : Kind → Type 0
IsSized PlainStatic = Unit {0}
IsSized (Static k) = 0 < k
IsSized (Dynamic k) = 0 < k
IsSized (Guided k) = 0 < k

-- the chunks joined in order are the iterations 0 .. n - 1; none is empty by its making
abbrev pub CutsAll : Type 0
CutsAll = (kind : Kind) (n workers : ℕ) → IsSized kind → 0 < workers → flat_map chunk_iterations (cut kind n workers) ≡ below n

-- of plain static no worker has two chunks
abbrev pub OneChunkEach : Type 0
OneChunkEach = (n workers : ℕ) → length (cut PlainStatic n workers) ≤ workers
