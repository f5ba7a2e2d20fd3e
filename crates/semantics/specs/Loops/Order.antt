-- The order of doacross iterations, their levels, and the run wave by wave. (OpenMP 5.2, 15.9.6 and 15.10.1)
use Rattle.std.specs.Prelude.{ℕ, zero, suc, Bool, true, false, ◌≡◌, ◌+◌, ◌==◌, nat_eq, max, if◌then◌else◌, List, [], ◌∷◌, ◌++◌, map, filter, length, Option, Some, None, ℤ, pos, negsuc, ◌-ℤ◌, neg_ℤ}
use Rattle.std.specs.List.{list_any, filter_map}
use lib.Pointwise.{pointwise}
use Rattle.semantics.specs.Meaning.State.{State}
use Rattle.semantics.specs.Meaning.Value.{both}
use Rattle.semantics.specs.Loops.Nest.{Vector}
use Rattle.semantics.specs.Loops.Chunk.{Kind}
use Rattle.semantics.specs.Loops.Piece.{SharedLoop}
use Rattle.semantics.specs.Loops.Joined.{JoinedLoop}
use Rattle.semantics.specs.Meaning.Places.{below}

-- how far a sink lies before the iteration that names it, one number for each loop: the sink `i-1, j` has the distance (1, 0)
abbrev pub Distance : Type 0
Distance = List ℤ

-- the first number that is not 0 is above 0, and there is one
abbrev pub is_ahead : Distance → Bool
is_ahead [] = false
is_ahead (pos zero ∷ ds) = is_ahead ds
is_ahead (pos (suc n) ∷ ds) = true
is_ahead (negsuc n ∷ ds) = false

-- what is written behind the variables of a sink: the distance (1, 0) has the offsets (-1, 0)
abbrev pub offsets : Distance → List ℤ
offsets ds = map neg_ℤ ds

-- a number that is not below 0
abbrev pub as_number : ℤ → Option ℕ
as_number (pos n) = Some n
as_number (negsuc n) = None

-- the vector that lies so far before, if none of its numbers is below 0
abbrev pub before_by : Vector → Distance → Option Vector
before_by [] [] = Some []
before_by (u ∷ us) (d ∷ ds) = both (λ v vs. v ∷ vs) (as_number (pos u -ℤ d)) (before_by us ds)
before_by [] (d ∷ ds) = None
before_by (u ∷ us) [] = None

-- it is an iteration of the space
abbrev pub among : List Vector → Vector → Bool
among space u = list_any (λ v. pointwise nat_eq u v) space

-- a vector that lies in the space
abbrev pub inside : List Vector → Option Vector → Option Vector
inside space None = None
inside space (Some u) = if among space u then Some u else None

-- the sinks of an iteration that lie in the space; a sink outside is ignored
abbrev pub sinks_of : List Vector → List Distance → Vector → List Vector
sinks_of space ds u = filter_map (λ d. inside space (before_by u d)) ds

-- v is an iteration, and u is one of its sinks
abbrev pub Sink : List Vector → List Distance → Vector → Vector → Type 0
Sink space ds u v = (among space v ≡ true) × (among (sinks_of space ds v) u ≡ true)

-- the least transitive relation that puts each sink in the space before the iteration that names it
pub data Before (space : List Vector) (ds : List Distance) : Vector → Vector → Type 0 where
  sink : {u v : Vector} → Sink space ds u v → Before space ds u v
  through : {u v w : Vector} → Before space ds u v → Before space ds v w → Before space ds u w

-- u comes earlier than v
abbrev pub Earlier : List Vector → Vector → Vector → Type 0
Earlier order u v = (front : List Vector) × (middle : List Vector) × (back : List Vector) × (order ≡ front ++ u ∷ (middle ++ v ∷ back))

-- an order of the space in which each iteration comes later than those before it
abbrev pub Respects : List Vector → List Distance → List Vector → Type 0
Respects space ds order = (u v : Vector) → Before space ds u v → Earlier order u v

-- 0 without a level, else one more than the greatest
abbrev pub one_above : List ℕ → ℕ
one_above [] = 0
one_above (l ∷ ls) = max (l + 1) (one_above ls)

-- the level of an iteration, with as many steps down as there are iterations at most
abbrev pub level_by : ℕ → List Vector → List Distance → Vector → ℕ
level_by zero space ds u = 0
level_by (suc n) space ds u = one_above (map (level_by n space ds) (sinks_of space ds u))

-- the level of an iteration
abbrev pub level : List Vector → List Distance → Vector → ℕ
level space ds u = level_by (length space) space ds u

-- the iterations of one level, in the order of the space
abbrev pub wave : List Vector → List Distance → ℕ → List Vector
wave space ds i = filter (λ u. level space ds u == i) space

-- how many levels there are
abbrev pub wave_count : List Vector → List Distance → ℕ
wave_count space ds = one_above (map (level space ds) space)

-- the iterations level by level
abbrev pub waves : List Vector → List Distance → List (List Vector)
waves space ds = map (wave space ds) (below (wave_count space ds))

-- wave by wave, each cut over its positions, and started from the state behind the waves before it
abbrev pub JoinedWaves : SharedLoop → Kind → ℕ → List (List Vector) → State → State → List ℕ → Type 0
JoinedWaves loop kind workers [] state state' text = (state' ≡ state) × (text ≡ [])
JoinedWaves loop kind workers (w ∷ ws) state state' text =
    (middle : State) × (order : List ℕ) × (front : List ℕ) × (back : List ℕ)
    × JoinedLoop loop w kind workers order state middle front
    × JoinedWaves loop kind workers ws middle state' back
    × (text ≡ front ++ back)
