-- A statement without directive lines is run as it stands.
use Rattle.std.specs.Prelude.{Bool, true, false, ◌≡◌, ◌||◌, List, [], ◌∷◌, ◌++◌, Some}
use Rattle.std.proofs.Common.{refl}
use Rattle.semantics.specs.Tree.{Stmt, Assign, Update, If, IfElse, For, Block, Print, Items, no_items, mark, local, stmt}
use Rattle.semantics.specs.Meaning.Value.{holds, by_test}
use Rattle.semantics.specs.Meaning.Runs.{nothing, then_from, declared, incremented, turns, greatest_trip_count, run, run_items}
use Rattle.semantics.specs.Loops.Nest.{Loop}
use Rattle.flow.specs.Roles.{LineData}
use Rattle.law_apart.specs.Apart.{apart, apart_items}
use Rattle.pragma.specs.Plain.{has_line, has_line_among}

left : (a b : Bool) → (a || b) ≡ false → a ≡ false
left true b e = absurd cc
left false b e = refl

right : (a b : Bool) → (a || b) ≡ false → b ≡ false
right true b e = absurd cc
right false b e = e

mutual
  pub whole : (a : Stmt) (R : LineData) (serial : List Loop) → has_line a ≡ false → apart R serial a ≡ run a
  whole (Assign x is e) R serial h = refl
  whole (Update x is op e) R serial h = refl
  whole (If c a) R serial h = λ i s. by_test (holds s c) (whole a R serial h i s) (Some nothing)
  whole (IfElse c a b) R serial h = λ i s. by_test (holds s c) (whole a R serial (left (has_line a) (has_line b) h) i s) (whole b R serial (right (has_line a) (has_line b) h) i s)
  whole (For x name start test step body) R serial h =
      λ i s. then_from s (declared s x (Some start))
      (turns greatest_trip_count (λ t. holds t test) (whole body R (serial ++ record { variable = x; start = start; test = test; step = step } ∷ []) h i) (λ t. incremented t step))
  whole (Block items) R serial h = whole_items items R serial h
  whole (Print parts) R serial h = refl

  pub whole_items : (items : Items) (R : LineData) (serial : List Loop) → has_line_among items ≡ false → apart_items R serial items ≡ run_items items
  whole_items no_items R serial h = refl
  whole_items (mark line rest) R serial h = absurd cc
  whole_items (local x name start rest) R serial h = λ i s. then_from s (declared s x start) (whole_items rest R serial h i)
  whole_items (stmt a rest) R serial h = λ i s. then_from s (whole a R serial (left (has_line a) (has_line_among rest) h) i s) (whole_items rest R serial (right (has_line a) (has_line_among rest) h) i)
