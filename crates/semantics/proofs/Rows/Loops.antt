-- They hold by computation.
use Rattle.std.specs.Prelude.{[], ◌∷◌}
use Rattle.std.proofs.Common.{refl, inl, arith}
use Rattle.std.proofs.lemmas.Bool.Decides.{nat_tests}
use Rattle.semantics.specs.Loops.Arrangement.{EachOnceBelow}
use Rattle.semantics.specs.Tree.{Binary, Minus, no_exprs, more_exprs}
use Rattle.semantics.specs.Loops.Access.{Reads, Writes, Touches, Conflict}
use Rattle.semantics.specs.Loops.Chunk.{Dynamic}
use Rattle.semantics.specs.Loops.Piece.{no_roles}
use Rattle.semantics.specs.Loops.Joined.{JoinedLoop, joined_state}
use Rattle.semantics.specs.Rows.Numbers.{empty, var, num, from_zero}
use Rattle.semantics.specs.Rows.Loops.{at_i, loop_of, holding, zeros, vectors, pieces_of, shifting, twice, LoopRows}

first_writes : Touches (from_zero 2 8 ∷ []) shifting empty (1 ∷ []) (record { array = 0; indexes = 1 ∷ [] }) Writes
first_writes =
    record {
      access = record { array = 0; subscripts = at_i; mode = Writes; inner = [] };
      there = (0, omega arith, refl);
      reaches = record { turns = [] ∷ []; are = refl; turn = []; among = (0, omega arith, refl); array = refl; indexes = refl };
      mode_is = refl;
    }

second_reads : Touches (from_zero 2 8 ∷ []) shifting empty (2 ∷ []) (record { array = 0; indexes = 1 ∷ [] }) Reads
second_reads =
    record {
      access = record { array = 0; subscripts = more_exprs (Binary Minus (var 2) (num 1)) no_exprs; mode = Reads; inner = [] };
      there = (1, omega arith, refl);
      reaches = record { turns = [] ∷ []; are = refl; turn = []; among = (0, omega arith, refl); array = refl; indexes = refl };
      mode_is = refl;
    }

row_conflict : Conflict (from_zero 2 8 ∷ []) shifting empty (1 ∷ []) (2 ∷ [])
row_conflict =
    record {
      differ = λ e. cc;
      element = record { array = 0; indexes = 1 ∷ [] };
      first = Writes;
      second = Reads;
      one_writes = inl refl;
      by_first = first_writes;
      by_second = second_reads;
    }

row_order : EachOnceBelow 2 (1 ∷ 0 ∷ [])
row_order x = grind (arith, nat_tests)

row_joined : JoinedLoop (loop_of no_roles twice 3) (vectors 3) (Dynamic 2) 2 (1 ∷ 0 ∷ []) (holding (zeros 3) 3 0) (joined_state no_roles (holding (zeros 3) 3 0) (pieces_of (loop_of no_roles twice 3) (holding (zeros 3) 3 0) 3 (Dynamic 2) 2) (1 ∷ 0 ∷ [])) []
row_joined = record { pieces = pieces_of (loop_of no_roles twice 3) (holding (zeros 3) 3 0) 3 (Dynamic 2) 2; each = refl; all = row_order; state_is = refl; text_is = refl }

pub rows : LoopRows
rows =
    record {
      conflict = row_conflict;
      no_partials = refl;
      stays = refl;
      own_writes = refl;
      last = refl;
      conditional_last = refl;
      conditional_middle = refl;
      conditional_none = refl;
      text = refl;
      scan_partials = refl;
      scan = refl;
      arrivals = refl;
      ends = refl;
      holds_none = refl;
      machine = refl;
      own_chunks = refl;
      own_next = refl;
      flag = refl;
      flag_seen = refl;
      order = row_order;
      joined = row_joined;
    }
