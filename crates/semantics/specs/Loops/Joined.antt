-- A loop's pieces put together, in the order in which they arrive.
use Rattle.std.specs.Prelude.{ℕ, suc, ◌≡◌, List, [], ◌∷◌, length, map, flat_map, Option, Some, None, slice_get, option_and_then, take, drop}
use Rattle.semantics.specs.Tree.{Variable}
use Rattle.semantics.specs.Meaning.State.{State, Assigned, written, overwritten, look}
use Rattle.semantics.specs.Meaning.Value.{map_option}
use Rattle.semantics.specs.Loops.Arrangement.{EachOnceBelow, picked}
use Rattle.semantics.specs.Loops.Nest.{Vector}
use Rattle.semantics.specs.Loops.Chunk.{Chunk, Kind, cut}
use Rattle.semantics.specs.Loops.Operator.{ReduceOp, combined_all}
use Rattle.semantics.specs.Loops.Piece.{Roles, SharedLoop, Piece, piece}

-- the i-th value of a list that may lack some
abbrev pub value_at : ℕ → List (Option ℕ) → Option ℕ
value_at i vs = option_and_then (λ o. o) (slice_get vs i)

-- the last chunk's
abbrev pub last_piece : List Piece → Option Piece
last_piece [] = None
last_piece (p ∷ []) = Some p
last_piece (p ∷ q ∷ ps) = last_piece (q ∷ ps)

-- the second where it is there, and else the first
abbrev pub later : Option ℕ → Option ℕ → Option ℕ
later a None = a
later a (Some b) = Some b

-- the last one that is there
abbrev pub last_some : List (Option ℕ) → Option ℕ
last_some [] = None
last_some (o ∷ os) = later o (last_some os)

-- an original gets a value, if there is one: a local, or a file-scope scalar
abbrev pub given : State → Variable → Option ℕ → State
given s x None = s
given s x (Some v) = written s (Assigned x [] v)

-- each reduction variable: its value before, combined with the updated partials in the order of arrival (OpenMP 5.2, 5.5.5)
abbrev pub with_reductions : ℕ → List (Variable × ReduceOp) → List Piece → State → State → State
with_reductions i [] ps before s = s
with_reductions i (r ∷ rs) ps before s =
    with_reductions (suc i) rs ps before
    (given s r.0 (map_option (λ v. combined_all r.1 v (map (λ p. value_at i p.partials) ps)) (look before r.0 [])))

-- each of these variables gets its own value, the first the i-th
abbrev pub with_values : (ℕ → Option ℕ) → ℕ → List Variable → State → State
with_values value i [] s = s
with_values value i (x ∷ xs) s = with_values value (suc i) xs (given s x (value i))

-- each lastprivate: its value in the piece with the last iteration, which is the last chunk's (OpenMP 5.2, 5.4.5)
abbrev pub with_lasts : List Variable → List Piece → State → State
with_lasts xs ps s = with_values (λ i. option_and_then (λ p. value_at i p.lasts) (last_piece ps)) 0 xs s

-- each conditional one: its value in the piece with the greatest chunk number that has one (OpenMP 5.2, 5.4.5, conditional)
abbrev pub with_conditionals : List Variable → List Piece → State → State
with_conditionals xs ps s = with_values (λ i. last_some (map (λ p. value_at i p.conditionals) ps)) 0 xs s

-- what lastprivate variables are given; pieces stand by chunk number, in whatever order they arrived
abbrev pub with_last_values : Roles → List Piece → State → State
with_last_values roles ps s = with_conditionals roles.conditionals ps (with_lasts roles.lasts ps s)

-- the state overwritten by the pieces' element writes, in the order of arrival
abbrev pub with_writes : List Piece → State → State
with_writes arrived s = overwritten s (flat_map (λ p. p.writes) arrived)

-- the state behind the loop; pieces stand by chunk number
abbrev pub joined_state : Roles → State → List Piece → List ℕ → State
joined_state roles before ps order =
    let arrived = picked ps order in
    with_last_values roles ps (with_reductions 0 roles.reductions arrived before (with_writes arrived before))

-- and the text, in chunk order (OpenMP 5.2, 15.10.2)
abbrev pub joined_text : List Piece → List ℕ
joined_text ps = flat_map (λ p. p.text) ps

-- chunks, each its iterations, are run from the state before the loop and joined in this order of all of them
pub record Joined (loop : SharedLoop) (state : State) (chunks : List (List Vector)) (order : List ℕ) (state' : State) (text : List ℕ) : Type 0 where
  pub pieces : List Piece
  pub each : map (piece loop state) chunks ≡ map Some pieces
  pub all : EachOnceBelow (length chunks) order
  pub state_is : state' ≡ joined_state loop.roles state pieces order
  pub text_is : text ≡ joined_text pieces

-- iterations cut into chunks
abbrev pub chunked : List Vector → List Chunk → List (List Vector)
chunked us cs = map (λ c. take c.count (drop c.first us)) cs

-- a loop's iterations, cut for so many workers, and joined in this order
abbrev pub JoinedLoop : SharedLoop → List Vector → Kind → ℕ → List ℕ → State → State → List ℕ → Type 0
JoinedLoop loop us kind workers order state state' text = Joined loop state (chunked us (cut kind (length us) workers)) order state' text
