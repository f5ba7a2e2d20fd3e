-- Runs in which each parallel loop leaves the locals as they were but for lastprivate and reduction variables, as a team does. (C11 6.2.1 and 6.2.4; OpenMP 5.2, 5.4.5, 5.5.8 and 11.5)
use Rattle.std.specs.Prelude.{ℕ, Bool, true, false, not, ◌≡◌, ◌&&◌, ◌||◌, if◌then◌else◌, List, [], ◌∷◌, ◌++◌, flat_map, is_some, Option, Some, None}
use Rattle.std.specs.List.{list_all}
use Rattle.semantics.specs.Tree.{Variable, Stmt, If, IfElse, For, Block, Items, no_items, mark, local, stmt}
use Rattle.semantics.specs.Meaning.Agrees.{is_among}
use Rattle.semantics.specs.Meaning.State.{State, Slot, Outside, Empty, Holds, Write, look, is_there, overwritten}
use Rattle.semantics.specs.Meaning.Value.{holds, by_test, map_option}
use Rattle.semantics.specs.Meaning.Runs.{Effect, nothing, then_from, declared, incremented, turns, greatest_trip_count, run}
use Rattle.semantics.specs.Loops.Nest.{Loop}
use Rattle.semantics.specs.Loops.Piece.{Roles, is_outside}
use Rattle.flow.specs.Roles.{LineData, left_roles}
use Rattle.law_roles.specs.Updates.{operands}
use Rattle.law_roles.specs.Reducing.{takes_all}
use Rattle.law_roles.specs.Sharing.{role_variables}
use Rattle.law_starts.specs.Begun.{told_apart}
use Rattle.law_independence.specs.OrderLaws.{used_roles}
use Rattle.law_scopes.specs.Apart.{written_as, shared_write, is_at_turn}

-- a local is written with what it holds in the end, if it holds a number
abbrev pub local_write : State → State → Variable → List Write
local_write s after x = if is_outside (s.locals x) then [] else written_as x [] (look after x [])

-- an effect on the objects at file scope and on these locals alone
abbrev pub left_effect : List Variable → State → Effect → Effect
left_effect xs s e =
    let after = overwritten s e.writes in
    record { writes = flat_map (shared_write s after) e.writes ++ flat_map (local_write s after) xs; text = e.text }

-- what a local is then: where one stands, the number that it holds in the end
abbrev pub left_slot : Slot → Option ℕ → Slot
left_slot Outside o = Outside
left_slot Empty None = Empty
left_slot Empty (Some v) = Holds v
left_slot (Holds n) None = Holds n
left_slot (Holds n) (Some v) = Holds v

-- it leaves all other locals as they were, and the objects at file scope as the whole effect does
pub record LeavesApart (xs : List Variable) (s : State) (e : Effect) : Type 0 where
  pub others : (x : Variable) → is_among xs x ≡ false → (overwritten s (left_effect xs s e).writes).locals x ≡ s.locals x
  pub locals : (x : Variable) → is_among xs x ≡ true → (overwritten s (left_effect xs s e).writes).locals x ≡ left_slot (s.locals x) (look (overwritten s e.writes) x [])
  pub cells : (x : Variable) (is : List ℕ) → (overwritten s (left_effect xs s e).writes).cells x is ≡ (overwritten s e.writes).cells x is

abbrev pub EffectsAreLeftApart : Type 0
EffectsAreLeftApart = (xs : List Variable) (s : State) (e : Effect) → LeavesApart xs s e

-- a scalar stands there, as a local or at file scope
abbrev pub stands_there : State → Variable → Bool
stands_there s x = not (is_outside (s.locals x)) || is_there (s.cells x [])

-- each variable with a role does, each reduction variable holds a number, and the operands of && and || have values also where these leave one out (C11 6.5.13 and 6.5.14)
abbrev pub is_at_hand : Roles → Stmt → State → Bool
is_at_hand roles a s =
    list_all (stands_there s) (role_variables roles) && list_all (λ r. is_some (look s r.0 [])) roles.reductions
    && (takes_all roles.reductions || is_some (run (operands roles.reductions a) s))

-- a parallel loop inside serial ones as a team runs it: at a turn of these, where its variables are at hand
abbrev pub handed : Roles → List Loop → Stmt → State → Option Effect
handed roles serial a s =
    if is_at_turn serial s && is_at_hand roles a s then map_option (left_effect (told_apart roles) s) (run a s) else None

abbrev mutual
  -- a statement inside serial loops, with the parallel loops in it run so, each by the roles of its line
  pub apart : LineData → List Loop → Stmt → State → Option Effect
  apart R serial (If c a) s = by_test (holds s c) (apart R serial a s) (Some nothing)
  apart R serial (IfElse c a b) s = by_test (holds s c) (apart R serial a s) (apart R serial b s)
  apart R serial (For x name start test step body) s =
      then_from s (declared s x (Some start))
      (turns greatest_trip_count (λ t. holds t test) (apart R (serial ++ record { variable = x; start = start; test = test; step = step } ∷ []) body) (λ t. incremented t step))
  apart R serial (Block items) s = apart_items R serial items s
  apart R serial a s = run a s

  -- the items of a block: behind a directive line stands a parallel loop
  pub apart_items : LineData → List Loop → Items → State → Option Effect
  apart_items R serial no_items s = Some nothing
  apart_items R serial (mark line rest) s = apart_behind R line serial rest s
  apart_items R serial (local x name start rest) s = then_from s (declared s x start) (apart_items R serial rest)
  apart_items R serial (stmt a rest) s = then_from s (apart R serial a s) (apart_items R serial rest)

  pub apart_behind : LineData → ℕ → List Loop → Items → State → Option Effect
  apart_behind R line serial no_items s = Some nothing
  apart_behind R line serial (mark other rest) s = apart_behind R other serial rest s
  apart_behind R line serial (local x name start rest) s = then_from s (declared s x start) (apart_items R serial rest)
  apart_behind R line serial (stmt a rest) s = then_from s (handed (used_roles a (left_roles (R line))) serial a s) (apart_items R serial rest)
