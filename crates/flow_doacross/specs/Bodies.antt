-- The body of a doacross nest: its sinks first, its source last. (OpenMP 5.2, 15.9.6 and 15.10.2)
use Rattle.std.specs.Prelude.{ℕ, Bool, true, false, not, ◌==◌, ◌&&◌, nat_le, if◌then◌else◌, List, [], ◌∷◌, map, length, Option, Some, None, neg_ℤ}
use Rattle.std.specs.List.{list_all}
use Rattle.semantics.specs.Tree.{Name, Stmt, Assign, Update, If, IfElse, For, Block, Print, Items, no_items, mark, local, stmt}
use Rattle.semantics.specs.Meaning.State.{same_indexes}
use Rattle.semantics.specs.Loops.Nest.{holds_none}
use Rattle.semantics.specs.Loops.Order.{Distance, is_ahead}
use Rattle.pragma_region.specs.Regions.{is_doacross_line}
use Rattle.nest_lines.specs.Inner.{has_line}
use Rattle.nest_lines.specs.declared.inner.InnerLine.TheVariants.{Doacross}
use Rattle.flow_doacross.specs.Lines.{Elements, sink_on, is_source_line}

-- ---- a sink

abbrev mutual
  -- the names of the variables of loops that stand one directly in the other, the outermost first; a block of one statement counts as the statement
  pub loop_names : Stmt → List Name
  loop_names (For x name start test step body) = name ∷ loop_names body
  loop_names (Block items) = only_names items
  loop_names (Assign x is e) = []
  loop_names (Update x is op e) = []
  loop_names (If c a) = []
  loop_names (IfElse c a b) = []
  loop_names (Print parts) = []

  pub only_names : Items → List Name
  only_names no_items = []
  only_names (mark n rest) = []
  only_names (local x name start rest) = []
  only_names (stmt s rest) = if holds_none rest then loop_names s else []

-- these name the first of them, in their order
abbrev pub in_order : List Name → Elements → Bool
in_order names [] = true
in_order [] (e ∷ es) = false
in_order (name ∷ names) (e ∷ es) = same_indexes e.0 name && in_order names es

-- how far a sink lies before the iteration that names it
abbrev pub distance_of : Elements → Distance
distance_of es = map (λ e. neg_ℤ e.1) es

-- the sink of a nest of d loops with these names: an element for each loop, of an earlier iteration
abbrev pub is_sink_of : ℕ → List Name → Elements → Bool
is_sink_of d names es = (length es == d) && in_order names es && is_ahead (distance_of es)

-- ---- a body

-- the sinks that stand first, and what stands behind them
pub record Front : Type 0 where
  pub sinks : List Elements
  pub rest : Items

abbrev pub with_sink : Option Elements → Items → Front → Front
with_sink None items further = record { sinks = []; rest = items }
with_sink (Some es) items further = record { sinks = es ∷ further.sinks; rest = further.rest }

abbrev pub cut_front : List ℕ → Items → Front
cut_front text no_items = record { sinks = []; rest = no_items }
cut_front text (mark n rest) = with_sink (sink_on text n) (mark n rest) (cut_front text rest)
cut_front text (local x name start rest) = record { sinks = []; rest = local x name start rest }
cut_front text (stmt s rest) = record { sinks = []; rest = stmt s rest }

-- the source is the last of these items, and no other one and no sink stands among them
abbrev pub ends_in_source : List ℕ → Items → Bool
ends_in_source text no_items = false
ends_in_source text (mark n rest) = if holds_none rest then is_source_line text n else not (is_doacross_line text n) && ends_in_source text rest
ends_in_source text (local x name start rest) = ends_in_source text rest
ends_in_source text (stmt s rest) = not (has_line text Doacross s) && ends_in_source text rest

-- one sink or more first, each right, and the source last
abbrev pub are_ordered : List ℕ → ℕ → List Name → Front → Bool
are_ordered text d names f = nat_le 1 (length f.sinks) && list_all (is_sink_of d names) f.sinks && ends_in_source text f.rest

-- so is the block of a body
abbrev pub is_ordered_body : List ℕ → ℕ → List Name → Option Stmt → Bool
is_ordered_body text d names (Some (Block items)) = are_ordered text d names (cut_front text items)
is_ordered_body text d names _ = false
