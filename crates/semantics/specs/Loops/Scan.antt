-- Scans in two passes: what a chunk's scan variable starts with. (OpenMP 5.2, 5.6)
use Rattle.std.specs.Prelude.{ℕ, suc, ◌≡◌, List, [], ◌∷◌, length, map, take, Option, Some}
use Rattle.semantics.specs.Tree.{Variable}
use Rattle.semantics.specs.Meaning.State.{State, slot_of, with_local, look}
use Rattle.semantics.specs.Meaning.Value.{map_option}
use Rattle.semantics.specs.Loops.Arrangement.{EachOnceBelow, picked}
use Rattle.semantics.specs.Loops.Nest.{Vector}
use Rattle.semantics.specs.Loops.Chunk.{Kind, cut}
use Rattle.semantics.specs.Loops.Operator.{ReduceOp, combined_all}
use Rattle.semantics.specs.Loops.Piece.{SharedLoop, Piece, piece, piece_from, chunk_start}
use Rattle.semantics.specs.Loops.Joined.{value_at, joined_text, given, with_last_values, with_writes, chunked}

-- the value before chunk c: that before the loop, combined with the updated partials of the chunks before it, in order; nothing where the variable held nothing
abbrev pub start_of : ReduceOp → Option ℕ → List (Option ℕ) → ℕ → Option ℕ
start_of op before partials c = map_option (λ v. combined_all op v (take c partials)) before

-- a chunk's piece with the scan variable at a start
abbrev pub second_piece : SharedLoop → Variable → State → Option ℕ → List Vector → Option Piece
second_piece l x state from us = piece_from l (with_local (chunk_start l.roles state) x (slot_of from)) us

-- the chunks' pieces, from chunk number c on
abbrev pub second_pieces : SharedLoop → Variable → ReduceOp → State → List (Option ℕ) → ℕ → List (List Vector) → List (Option Piece)
second_pieces l x op state partials c [] = []
second_pieces l x op state partials c (us ∷ chunks) =
    second_piece l x state (start_of op (look state x []) partials c) us ∷ second_pieces l x op state partials (suc c) chunks

-- the scan variable's partials, by chunk number; it is the loop's only reduction variable
abbrev pub scan_partials : List Piece → List (Option ℕ)
scan_partials firsts = map (λ p. value_at 0 p.partials) firsts

-- a scan of x: a first pass for the partials, a second for the pieces, which are joined in this order of all of them
pub record Scanned (loop : SharedLoop) (x : Variable) (op : ReduceOp) (state : State) (chunks : List (List Vector)) (order : List ℕ) (state' : State) (text : List ℕ) : Type 0 where
  pub only : loop.roles.reductions ≡ (x, op) ∷ []
  pub firsts : List Piece
  pub first_pass : map (piece loop state) chunks ≡ map Some firsts
  pub pieces : List Piece
  pub second_pass : second_pieces loop x op state (scan_partials firsts) 0 chunks ≡ map Some pieces
  pub all : EachOnceBelow (length chunks) order
  pub state_is :
      state' ≡
      given (with_last_values loop.roles pieces (with_writes (picked pieces order) state)) x
      (map_option (λ v. combined_all op v (scan_partials firsts)) (look state x []))
  pub text_is : text ≡ joined_text pieces

-- a scan loop's iterations, cut for so many workers
abbrev pub ScannedLoop : SharedLoop → Variable → ReduceOp → List Vector → Kind → ℕ → List ℕ → State → State → List ℕ → Type 0
ScannedLoop loop x op us kind workers order state state' text =
    Scanned loop x op state (chunked us (cut kind (length us) workers)) order state' text
