-- Worked rows of other orders: a doacross nest that may be turned, and prefix sums.
use Rattle.std.specs.Prelude.{ℕ, ◌≡◌, List, [], ◌∷◌, map, Option, Some, pos}
use Rattle.semantics.specs.Tree.{Binary, Plus, Minus, no_exprs, Number, Assign, Stmt, Block, no_items, stmt}
use Rattle.semantics.specs.Meaning.State.{State, overwritten, look}
use Rattle.semantics.specs.Meaning.Value.{map_option}
use Rattle.semantics.specs.Meaning.Output.{start}
use Rattle.semantics.specs.Meaning.Places.{below}
use Rattle.semantics.specs.Loops.Arrangement.{picked}
use Rattle.semantics.specs.Loops.Nest.{Loop, Vector, iterations, rising_loop}
use Rattle.semantics.specs.Loops.Order.{Distance, Respects}
use Rattle.semantics.specs.Loops.Operator.{Sum}
use Rattle.semantics.specs.Loops.Piece.{SharedLoop, no_roles, run_iterations}
use Rattle.semantics.specs.Theorems.{scan_turns, run_turns}
use Rattle.semantics.specs.Rows.Numbers.{var, num}
use Rattle.semantics.specs.Rows.Loops.{a_at, at_i, holding}
use Rattle.law_scans.specs.Rows.{prefix_sums}
use Rattle.law_orders.specs.Orders.{IsOrdered}
use Rattle.law_orders.specs.Scans.{IsCarried}

-- ---- a nest

-- A is variable 0, s is 1, and i is 2: for (i = 2; i < 5; i += 1) { s = A[i - 2]; A[i] = s + 1; } with s private and the sink i-2
abbrev pub skip_body : Stmt
skip_body = Block (stmt (Assign 1 no_exprs (Number (a_at (Binary Minus (var 2) (num 2))))) (stmt (Assign 0 at_i (Number (Binary Plus (var 1) (num 1)))) no_items))

abbrev pub skip_loop : Loop
skip_loop = rising_loop 2 (Number (num 2)) (num 5) 1

abbrev pub skipping : SharedLoop
skipping = record { loops = skip_loop ∷ []; body = skip_body; roles = record no_roles { privates = 1 ∷ [] } }

abbrev pub skip_sinks : List Distance
skip_sinks = (pos 2 ∷ []) ∷ []

abbrev pub skip_space : List Vector
skip_space = (2 ∷ []) ∷ (3 ∷ []) ∷ (4 ∷ []) ∷ []

-- A is 5 7 0 0 0, and s is 9
abbrev pub skip_start : State
skip_start = holding (5 ∷ 7 ∷ 0 ∷ 0 ∷ 0 ∷ []) 5 9

-- what A holds behind the iterations in this order
abbrev pub skipped : List ℕ → Option (List (Option ℕ))
skipped order =
    map_option (λ e. map (λ i. look (overwritten skip_start e.writes) 0 (i ∷ [])) (below 5)) (run_iterations skipping.loops skipping.body (picked skip_space order) skip_start)

-- ---- a scan

-- s is variable 0, a is 1, b is 2, and i is 3: for (i = 0; i < 3; i += 1) { s += a[i]; b[i] = s; } with the scan variable s
abbrev pub sums : SharedLoop
sums = record { loops = rising_loop 3 (Number (num 0)) (num 3) 1 ∷ []; body = prefix_sums; roles = record no_roles { reductions = (0, Sum) ∷ [] } }

abbrev pub sum_space : List Vector
sum_space = (0 ∷ []) ∷ (1 ∷ []) ∷ (2 ∷ []) ∷ []

-- s is 10, a is 1 2 3, and b is 0 0 0
abbrev pub sum_start : State
sum_start =
    start
    (record { name = 115 ∷ []; lengths = [] } ∷ record { name = 97 ∷ []; lengths = 3 ∷ [] } ∷ record { name = 98 ∷ []; lengths = 3 ∷ [] } ∷ [])
    ((0, 10 ∷ []) ∷ (1, 1 ∷ 2 ∷ 3 ∷ []) ∷ (2, 0 ∷ 0 ∷ 0 ∷ []) ∷ [])

-- each iteration with what s holds before it in sequence
abbrev pub sum_turns : List (Vector × Option ℕ)
sum_turns = (0 ∷ [], Some 10) ∷ (1 ∷ [], Some 11) ∷ (2 ∷ [], Some 13) ∷ []

-- what b holds behind these in this order
abbrev pub summed : List ℕ → Option (List (Option ℕ))
summed order = map_option (λ e. map (λ i. look (overwritten sum_start e.writes) 2 (i ∷ [])) (below 3)) (run_turns sums 0 (picked sum_turns order) sum_start)

-- ---- the rows

pub record OrderRows : Type 0 where
  -- the nest's iterations, in sequence, and in another order that respects the sink
  pub space : iterations skipping.loops skip_start ≡ Some skip_space
  pub ordered : IsOrdered (1 ∷ []) skipping skip_sinks skip_start skip_space
  pub in_turn : skipped (0 ∷ 1 ∷ 2 ∷ []) ≡ Some (Some 5 ∷ Some 7 ∷ Some 6 ∷ Some 8 ∷ Some 7 ∷ [])
  pub respects : Respects skip_space skip_sinks (picked skip_space (1 ∷ 0 ∷ 2 ∷ []))
  pub turned : skipped (1 ∷ 0 ∷ 2 ∷ []) ≡ Some (Some 5 ∷ Some 7 ∷ Some 6 ∷ Some 8 ∷ Some 7 ∷ [])
  -- one that does not respect it leaves something else
  pub breaks : Respects skip_space skip_sinks (picked skip_space (2 ∷ 0 ∷ 1 ∷ [])) → ⊥
  pub astray : skipped (2 ∷ 0 ∷ 1 ∷ []) ≡ Some (Some 5 ∷ Some 7 ∷ Some 6 ∷ Some 8 ∷ Some 1 ∷ [])
  -- the scan's, each with its value
  pub places : iterations sums.loops sum_start ≡ Some sum_space
  pub carried : IsCarried 0 [] sums sum_start sum_space
  pub values : scan_turns sums 0 sum_space sum_start ≡ Some sum_turns
  pub sequence : summed (0 ∷ 1 ∷ 2 ∷ []) ≡ Some (Some 11 ∷ Some 13 ∷ Some 16 ∷ [])
  pub any : summed (2 ∷ 0 ∷ 1 ∷ []) ≡ Some (Some 11 ∷ Some 13 ∷ Some 16 ∷ [])
