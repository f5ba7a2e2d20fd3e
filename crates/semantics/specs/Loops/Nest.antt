-- Loop nests: the vectors at which C's starts, tests and increments enter the innermost body, in order. (OpenMP 5.2, 4.4.2)
use Rattle.std.specs.Prelude.{ℕ, zero, suc, Bool, true, false, if◌then◌else◌, List, [], ◌∷◌, ◌++◌, ◌+◌, map, Option, Some, None, option_and_then}
use Rattle.semantics.specs.Tree.{Variable, Bare, Literal, Object, Expr, no_exprs, Plus, Less, Compare, Change, Source, Cond, Increment, Stmt, For, Block, Items, no_items, mark, local, stmt}
use Rattle.semantics.specs.Meaning.State.{State, Holds, with_local, overwritten, look}
use Rattle.semantics.specs.Meaning.Value.{source_value, holds, both, by_test, map_option}
use Rattle.semantics.specs.Meaning.Runs.{incremented, greatest_trip_count}

-- a loop without its body
pub record Loop : Type 0 where
  pub variable : Variable
  pub start : Source
  pub test : Cond
  pub step : Increment

-- the values of the associated loops, the outermost first (OpenMP 5.2, 4.4.2)
abbrev pub Vector : Type 0
Vector = List ℕ

-- a loop and what it runs; a block of one statement counts as the statement, and a directive line or a local beside it is one too many (OpenMP 5.2, 4.4.1)
abbrev mutual
  -- a for, or a block that is one
  pub as_loop : Stmt → Option (Loop × Stmt)
  as_loop (For x name start test step body) = Some (record { variable = x; start = start; test = test; step = step }, body)
  as_loop (Block items) = only_loop items
  as_loop _ = None

  -- the one statement of these items
  pub only_loop : Items → Option (Loop × Stmt)
  only_loop no_items = None
  only_loop (mark line rest) = None
  only_loop (local x name start rest) = None
  only_loop (stmt s rest) = if holds_none rest then as_loop s else None

  -- no item is left
  pub holds_none : Items → Bool
  holds_none no_items = true
  holds_none (mark line rest) = false
  holds_none (local x name start rest) = false
  holds_none (stmt s rest) = false

-- the outermost n loops of a perfect nest, and the innermost body (OpenMP 5.2, 4.4.3 and 4.4.4)
abbrev pub nest_of : ℕ → Stmt → Option (List Loop × Stmt)
nest_of zero s = Some ([], s)
nest_of (suc n) s = option_and_then (λ found. map_option (λ inner. (found.0 ∷ inner.0, inner.1)) (nest_of n found.1)) (as_loop s)

-- the values that a variable has at the turns of its loop: the test, and where it holds the value, the step and the others (C11 6.8.5.3)
abbrev pub values_from : ℕ → Loop → State → Option (List ℕ)
values_from zero l s = by_test (holds s l.test) None (Some [])
values_from (suc n) l s =
    by_test (holds s l.test)
    (both (λ v vs. v ∷ vs) (look s l.variable []) (option_and_then (λ e. values_from n l (overwritten s e.writes)) (incremented s l.step)))
    (Some [])

-- a loop's variable has this value
abbrev pub at_value : State → Variable → ℕ → State
at_value s x v = with_local s x (Holds v)

-- all the values, from the start on
abbrev pub loop_values : Loop → State → Option (List ℕ)
loop_values l s = option_and_then (λ v. values_from greatest_trip_count l (at_value s l.variable v)) (source_value s l.start)

-- all lists, one after another, if each is there
abbrev pub concat_options : {A : Type 0} → List (Option (List A)) → Option (List A)
concat_options [] = Some []
concat_options (o ∷ os) = both (λ a b. a ++ b) o (concat_options os)

-- the iterations of a nest from the state round it, in order of sequential execution; an inner loop's start and test may mention an outer variable
abbrev pub iterations : List Loop → State → Option (List Vector)
iterations [] s = Some ([] ∷ [])
iterations (l ∷ ls) s =
    option_and_then
    (λ vs. concat_options (map (λ v. map_option (map (λ us. v ∷ us)) (iterations ls (at_value s l.variable v))) vs))
    (loop_values l s)

-- the state in which an iteration's body begins
abbrev pub at_vector : List Loop → Vector → State → State
at_vector (l ∷ ls) (v ∷ vs) s = at_vector ls vs (at_value s l.variable v)
at_vector [] vs s = s
at_vector (l ∷ ls) [] s = s

-- for (x = start; x < bound; x += step)
abbrev pub rising_loop : Variable → Source → Expr → ℕ → Loop
rising_loop x start bound step =
    record { variable = x; start = start; test = Compare Less (Object x no_exprs) bound; step = Change x Plus (Literal step Bare) }

-- m numbers from v on, each s above the one before
abbrev pub counting : ℕ → ℕ → ℕ → List ℕ
counting v s zero = []
counting v s (suc m) = v ∷ counting (v + s) s m
