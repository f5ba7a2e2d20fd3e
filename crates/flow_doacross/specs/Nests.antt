-- Doacross nests, each rightly made, and no sink and no source elsewhere. (OpenMP 5.2, 4.4.4, 15.9.6 and 15.10.2)
use Rattle.std.specs.Prelude.{ℕ, Bool, true, false, not, ◌==◌, ◌&&◌, List, [], Option, Some, None}
use Rattle.std.specs.List.{list_all}
use Rattle.semantics.specs.Tree.{Variable, Stmt, Assign, Update, If, IfElse, For, Block, Print, Items, no_items, mark, local, stmt, Kernel}
use Rattle.semantics.specs.Loops.Nest.{Loop, nest_of}
use Rattle.semantics.specs.Directives.Directive.{Clause}
use Rattle.semantics.specs.Directives.Clauses.{doacross_of}
use Rattle.nest_loop.specs.Canonical.{canonical}
use Rattle.nest_loop.specs.declared.stride.Direction.{Direction}
use Rattle.nest_loop.specs.declared.stride.Direction.TheVariants.{Rising, Falling}
use Rattle.nest_loop.specs.declared.head.Canonical.{Canonical}
use Rattle.pragma_named.specs.Known.{Lines}
use Rattle.law_waves.specs.Silent.{is_silent}
use Rattle.flow.specs.Private.{nest_body_of}
use Rattle.pragma_region.specs.Regions.{is_doacross_line}
use Rattle.nest_lines.specs.Lines.{line_before}
use Rattle.flow_doacross.specs.Lines.{associates, suits_doacross}
use Rattle.flow_doacross.specs.Bodies.{loop_names, is_ordered_body}

-- ---- a nest

abbrev pub is_rising : Direction → Bool
is_rising Rising = true
is_rising Falling = false

-- it rises by 1
abbrev pub goes_by_one : Option Canonical → Bool
goes_by_one None = false
goes_by_one (Some l) = is_rising l.stride.direction && (l.stride.by == 1)

-- a loop between two numbers: a canonical one without a variable in its bounds, that rises by 1
abbrev pub counts_up : Loop → Bool
counts_up h = goes_by_one (canonical [] h.variable h.start h.test h.step)

-- the loops of a nest are there, and each is so
abbrev pub all_count_up : Option (List Loop × Stmt) → Bool
all_count_up None = false
all_count_up (Some nest) = list_all counts_up nest.0

-- a body is there, and prints nothing
abbrev pub prints_nothing : Option Stmt → Bool
prints_nothing None = false
prints_nothing (Some body) = is_silent body

-- a statement behind the line of number n is a nest of d loops, as `ordered(d)` among these clauses asks for
abbrev pub is_doacross_nest : List ℕ → ℕ → ℕ → List (Clause Variable) → Stmt → Bool
is_doacross_nest text n d cs s =
    associates text n d && list_all suits_doacross cs && all_count_up (nest_of d s) && prints_nothing (nest_body_of d s)
    && is_ordered_body text d (loop_names s) (nest_body_of d s)

-- ---- the nests of a kernel

-- a statement by what the clauses of the line before say; inside: what is judged where they make no nest of it
abbrev pub nest_by : List ℕ → ℕ → Option ℕ → List (Clause Variable) → Stmt → Bool → Bool
nest_by text n None cs s inside = inside
nest_by text n (Some d) cs s inside = is_doacross_nest text n d cs s

-- behind a line, or behind none
abbrev pub nest_behind : List ℕ → Lines → Option ℕ → Stmt → Bool → Bool
nest_behind text lines None s inside = inside
nest_behind text lines (Some n) s inside = nest_by text n (doacross_of (lines n)) (lines n) s inside

abbrev mutual
  -- each nest in a statement is right, and no sink and no source stands in it elsewhere
  pub nests_in : List ℕ → Lines → Stmt → Bool
  nests_in text lines (Assign x is e) = true
  nests_in text lines (Update x is op e) = true
  nests_in text lines (If c a) = nests_in text lines a
  nests_in text lines (IfElse c a b) = nests_in text lines a && nests_in text lines b
  nests_in text lines (For x name start test step body) = nests_in text lines body
  nests_in text lines (Block items) = nests_among text lines None items
  nests_in text lines (Print parts) = true

  -- before: the number of the line before these items
  pub nests_among : List ℕ → Lines → Option ℕ → Items → Bool
  nests_among text lines before no_items = true
  nests_among text lines before (mark n rest) = not (is_doacross_line text n) && nests_among text lines (line_before text before n) rest
  nests_among text lines before (local x name start rest) = nests_among text lines None rest
  nests_among text lines before (stmt s rest) = nest_behind text lines before s (nests_in text lines s) && nests_among text lines None rest

-- so it is of a kernel with all its lines, by the clauses that count for each
abbrev pub doacross_rightly : List ℕ → Lines → Kernel → Bool
doacross_rightly text lines k = nests_among text lines None k.body
