-- Worked rows of numbers: cuts into chunks, loops, waves, scans, a filled array.
use Rattle.semantics.specs.Meaning.Places.{below}
use Rattle.std.specs.Prelude.{map, length, ℕ, ◌≡◌, [], ◌∷◌, List, Some, None, pos, negsuc}
use Rattle.semantics.specs.Tree.{Expr, Literal, Bare, Ull, Object, Binary, Plus, Minus, no_exprs, more_exprs, Compare, Less, LessEqual, Greater, Number, Up, Change, For, Assign, no_items, stmt, Kernel}
use Rattle.semantics.specs.Meaning.State.{State, Outside, overwritten}
use Rattle.semantics.specs.Meaning.Value.{map_option}
use Rattle.semantics.specs.Meaning.Runs.{run_items}
use Rattle.semantics.specs.Loops.Nest.{Loop, loop_values, iterations}
use Rattle.semantics.specs.Loops.Chunk.{Static, Dynamic, Guided, PlainStatic, sizes, cut, owner}
use Rattle.semantics.specs.Loops.Arrangement.{picked}
use Rattle.semantics.specs.Loops.Operator.{Sum, AndAlso, combined_all}
use Rattle.semantics.specs.Loops.Order.{Distance, offsets, waves}
use Rattle.semantics.specs.Loops.Scan.{start_of}
use Rattle.semantics.specs.Meaning.Output.{start}

abbrev pub empty : State
empty = record { cells = λ x is. None; locals = λ x. Outside }

abbrev pub var : ℕ → Expr
var x = Object x no_exprs

abbrev pub num : ℕ → Expr
num n = Literal n Bare

-- i = 10; i > 2; i -= 3
abbrev pub falling : Loop
falling = record { variable = 5; start = Number (num 10); test = Compare Greater (var 5) (num 2); step = Change 5 Minus (num 3) }

-- i = 0; i < n; i++, and j = 0; j <= i; j++
abbrev pub from_zero : ℕ → ℕ → Loop
from_zero x n = record { variable = x; start = Number (num 0); test = Compare Less (var x) (num n); step = Up x }

abbrev pub up_to : ℕ → ℕ → Loop
up_to x y = record { variable = x; start = Number (num 0); test = Compare LessEqual (var x) (var y); step = Up x }

-- the waves of a space, by their sizes
abbrev pub wave_sizes : List (List ℕ) → List Distance → List ℕ
wave_sizes space ds = map length (waves space ds)

-- uint64_t A[3]; for (i = 0; i < 3; i++) A[i] = i + 5ull;
abbrev pub filling : Kernel
filling =
    record {
      constants = [];
      variables = record { name = 65 ∷ []; lengths = 3 ∷ [] } ∷ [];
      body = stmt (For 1 (105 ∷ []) (Number (num 0)) (Compare Less (var 1) (num 3)) (Up 1) (Assign 0 (more_exprs (var 1) no_exprs) (Number (Binary Plus (var 1) (Literal 5 Ull))))) no_items;
    }

-- the rows
pub record NumberRows : Type 0 where
  -- sizes of chunks, for so many iterations and workers
  pub plain : sizes PlainStatic 10 3 ≡ 4 ∷ 3 ∷ 3 ∷ []
  pub plain_few : map (λ c. c.count) (cut PlainStatic 8 64) ≡ 1 ∷ 1 ∷ 1 ∷ 1 ∷ 1 ∷ 1 ∷ 1 ∷ 1 ∷ []
  pub static : cut (Static 3) 10 2 ≡ record { first = 0; count = 3 } ∷ record { first = 3; count = 3 } ∷ record { first = 6; count = 3 } ∷ record { first = 9; count = 1 } ∷ []
  pub owners : map (λ c. owner (Static 3) c 2) (below 4) ≡ Some 0 ∷ Some 1 ∷ Some 0 ∷ Some 1 ∷ []
  pub dynamic : sizes (Dynamic 3) 8 3 ≡ 3 ∷ 3 ∷ 2 ∷ []
  pub guided_one : sizes (Guided 1) 10 3 ≡ 4 ∷ 2 ∷ 2 ∷ 1 ∷ 1 ∷ []
  pub guided_two : sizes (Guided 2) 10 3 ≡ 4 ∷ 2 ∷ 2 ∷ 2 ∷ []
  pub guided_three : sizes (Guided 3) 10 3 ≡ 4 ∷ 3 ∷ 3 ∷ []
  pub none : cut (Guided 3) 0 3 ≡ []
  pub values : loop_values falling empty ≡ Some (10 ∷ 7 ∷ 4 ∷ [])
  -- a triangle: 10 vectors, the one at 5 is (2, 2), and (3, 1) is the one at 7
  pub triangle : map_option {B = ℕ × List (List ℕ)} (λ us. (length us, picked us (5 ∷ 7 ∷ 9 ∷ []))) (iterations (from_zero 5 4 ∷ up_to 6 5 ∷ []) empty) ≡ Some (10, (2 ∷ 2 ∷ []) ∷ (3 ∷ 1 ∷ []) ∷ (3 ∷ 3 ∷ []) ∷ [])
  -- 3 by 3, sinks i-1, j+1 and i, j-1
  pub waves : map_option (λ us. wave_sizes us ((pos 1 ∷ negsuc 0 ∷ []) ∷ (pos 0 ∷ pos 1 ∷ []) ∷ [])) (iterations (from_zero 5 3 ∷ from_zero 6 3 ∷ []) empty) ≡ Some (1 ∷ 1 ∷ 2 ∷ 1 ∷ 2 ∷ 1 ∷ 1 ∷ [])
  -- 3 by 3, sinks i-1, j and i, j-1
  pub waves_square : map_option (λ us. wave_sizes us ((pos 1 ∷ pos 0 ∷ []) ∷ (pos 0 ∷ pos 1 ∷ []) ∷ [])) (iterations (from_zero 5 3 ∷ from_zero 6 3 ∷ []) empty) ≡ Some (1 ∷ 2 ∷ 3 ∷ 2 ∷ 1 ∷ [])
  -- i from 2 below 8, sink i-2: three waves of two
  pub waves_two : wave_sizes (map (λ i. i ∷ []) (2 ∷ 3 ∷ 4 ∷ 5 ∷ 6 ∷ 7 ∷ [])) ((pos 2 ∷ []) ∷ []) ≡ 2 ∷ 2 ∷ 2 ∷ []
  -- the sink i-1, j is written with the offsets -1, 0
  pub offsets : offsets (pos 1 ∷ pos 0 ∷ []) ≡ negsuc 0 ∷ pos 0 ∷ []
  -- 1 2 3 4 5 summed from 10: the starts of two chunks, and of four
  pub two_starts : map (start_of Sum (Some 10) (Some 6 ∷ Some 9 ∷ [])) (below 2) ≡ Some 10 ∷ Some 16 ∷ []
  pub four_starts : map (start_of Sum (Some 10) (Some 3 ∷ Some 3 ∷ Some 4 ∷ Some 5 ∷ [])) (below 4) ≡ Some 10 ∷ Some 13 ∷ Some 16 ∷ Some 20 ∷ []
  -- partials that no assignment updated are left out: 5 stays 5, where its `&&` with 1 is 1
  pub untouched : combined_all AndAlso 5 (None ∷ None ∷ []) ≡ 5
  pub touched : combined_all AndAlso 5 (None ∷ Some 1 ∷ []) ≡ 1
  -- A = 5 6 7
  pub filling : map_option (λ e. map (λ i. (overwritten (start filling.variables []) e.writes).cells 0 (i ∷ [])) (below 3)) (run_items filling.body (start filling.variables [])) ≡ Some (Some 5 ∷ Some 6 ∷ Some 7 ∷ [])
