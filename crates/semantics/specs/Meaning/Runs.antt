-- What statements do, by C11 6.8: big steps by cases. Directive lines are passed over.
use Rattle.std.specs.Prelude.{ℕ, zero, suc, Bool, ◌≡◌, ◌-◌, ◌^◌, if◌then◌else◌, List, [], ◌∷◌, ◌++◌, Option, Some, None}
use Rattle.std.specs.Fmt.{decimal}
use Rattle.semantics.specs.Tree.{Variable, BinaryOp, Plus, Minus, Expr, Literal, Bare, Object, Exprs, no_exprs, Source, Increment, Up, Down, Set, Change, PrintPart, Characters, Decimal, Stmt, Assign, Update, If, IfElse, For, Block, Print, Items, no_items, mark, local, stmt}
use Rattle.semantics.specs.Meaning.State.{State, Write, Declared, Assigned, overwritten, is_object}
use Rattle.semantics.specs.Meaning.Value.{value, values, holds, source_value, by_test, both, both_then, map_option, operate}

-- what a statement did: the assigned objects with their values, in order, and what printf wrote
pub record Effect : Type 0 where
  pub writes : List Write
  pub text : List ℕ

-- no write and no text
abbrev pub nothing : Effect
nothing = record { writes = []; text = [] }

-- one write and no text
abbrev pub one_write : Write → Effect
one_write w = record { writes = w ∷ []; text = [] }

-- the one, and then the other
abbrev pub joined : Effect → Effect → Effect
joined a b = record { writes = a.writes ++ b.writes; text = a.text ++ b.text }

-- one step and then another, from the state that the first leaves
abbrev pub then_from : State → Option Effect → (State → Option Effect) → Option Effect
then_from s None next = None
then_from s (Some first) next = map_option (joined first) (next (overwritten s first.writes))

-- a local declared with a value
abbrev pub declares : Variable → Option ℕ → Option Effect
declares x None = None
declares x (Some v) = Some (one_write (Declared x (Some v)))

-- a local with its first value, or with nothing (C11 6.7.9, 10 and 11)
abbrev pub declared : State → Variable → Option Source → Option Effect
declared s x None = Some (one_write (Declared x None))
declared s x (Some e) = declares x (source_value s e)

-- an assignment to an object that is there (C11 6.5.16)
abbrev pub assigned : State → Variable → Option (List ℕ) → Option ℕ → Option Effect
assigned s x (Some ks) (Some v) = if is_object s x ks then Some (one_write (Assigned x ks v)) else None
assigned s x (Some ks) None = None
assigned s x None v = None

-- `op=`: the object's own value and the other one (C11 6.5.16.2)
abbrev pub updated : State → Variable → Exprs → BinaryOp → Expr → Option Effect
updated s x is op e = assigned s x (values s is) (both_then (operate op) (value s (Object x is)) (value s e))

-- C11 6.5.2.4 and 6.5.3.1
abbrev pub incremented : State → Increment → Option Effect
incremented s (Up x) = updated s x no_exprs Plus (Literal 1 Bare)
incremented s (Down x) = updated s x no_exprs Minus (Literal 1 Bare)
incremented s (Set x e) = assigned s x (Some []) (source_value s e)
incremented s (Change x op e) = updated s x no_exprs op e

-- characters as they are, numbers in plain decimal (C11 7.21.6.1 and 7.8.1)
abbrev pub part_text : State → PrintPart → Option (List ℕ)
part_text s (Characters bs) = Some bs
part_text s (Decimal e) = map_option decimal (value s e)

-- what printf writes, part after part
abbrev pub print_text : State → List PrintPart → Option (List ℕ)
print_text s [] = Some []
print_text s (p ∷ ps) = both (λ a b. a ++ b) (part_text s p) (print_text s ps)

-- at most so many turns of a loop (C11 6.8.5 and 6.8.5.3): the test, and where it holds the body, the step and the other turns
abbrev pub turns : ℕ → (State → Option Bool) → (State → Option Effect) → (State → Option Effect) → State → Option Effect
turns zero test body step s = by_test (test s) None (Some nothing)
turns (suc n) test body step s =
    by_test (test s) (then_from s (body s) (λ t. then_from t (step t) (turns n test body step))) (Some nothing)

-- a loop that makes more turns than this has no run; no accepted loop comes near it
unfoldable pub greatest_trip_count : ℕ
greatest_trip_count = 2 ^ 64 - 1

abbrev mutual
  -- what a statement does from a state, if it has a run there (C11 6.8.2 to 6.8.5)
  pub run : Stmt → State → Option Effect
  run (Assign x is e) s = assigned s x (values s is) (source_value s e)
  run (Update x is op e) s = updated s x is op e
  run (If c a) s = by_test (holds s c) (run a s) (Some nothing)
  run (IfElse c a b) s = by_test (holds s c) (run a s) (run b s)
  run (For x name start test step body) s =
      then_from s (declared s x (Some start)) (turns greatest_trip_count (λ t. holds t test) (run body) (λ t. incremented t step))
  run (Block items) s = run_items items s
  run (Print parts) s = map_option (λ t. record { writes = []; text = t }) (print_text s parts)

  -- a block's items in order (C11 6.8.2)
  pub run_items : Items → State → Option Effect
  run_items no_items s = Some nothing
  run_items (mark line rest) s = run_items rest s
  run_items (local x name start rest) s = then_from s (declared s x start) (run_items rest)
  run_items (stmt a rest) s = then_from s (run a s) (run_items rest)

-- big steps: the statement runs from state, writes and prints this, and leaves state'
pub record Runs (statement : Stmt) (state : State) (writes : List Write) (state' : State) (text : List ℕ) : Type 0 where
  pub effect : run statement state ≡ Some (record { writes = writes; text = text })
  pub left : state' ≡ overwritten state writes
