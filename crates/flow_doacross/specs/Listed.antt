-- The doacross nests of a kernel, each with its sinks. (OpenMP 5.2, 15.9.6 and 15.10.2)
use Rattle.std.specs.Prelude.{ℕ, ◌^◌, Bool, ◌==◌, nat_lt, if◌then◌else◌, filter, List, [], ◌∷◌, ◌++◌, map, Option, Some, None, ℤ, pos, negsuc}
use Rattle.std.specs.List.{list_all}
use Rattle.semantics.specs.Tree.{Stmt, Assign, Update, If, IfElse, For, Block, Print, Items, no_items, mark, local, stmt, Kernel}
use Rattle.semantics.specs.Loops.Order.{Distance}
use Rattle.semantics.specs.Directives.Clauses.{doacross_of as ordered_loops}
use Rattle.pragma_named.specs.Known.{Lines}
use Rattle.flow.specs.Private.{nest_body_of}
use Rattle.nest_lines.specs.Lines.{line_before}
use Rattle.flow_doacross.specs.Bodies.{distance_of, cut_front}

-- a number of 64 bits with its sign
abbrev pub is_near : ℤ → Bool
is_near (pos n) = nat_lt n (2 ^ 63)
is_near (negsuc n) = nat_lt n (2 ^ 63)

-- the distances of such numbers; a sink that lies further off along a loop is outside of the space, and ignored
abbrev pub near : List Distance → List Distance
near ds = filter (list_all is_near) ds

-- those of the sinks of a body
abbrev pub distances_in : List ℕ → Option Stmt → List Distance
distances_in text (Some (Block items)) = near (map distance_of (cut_front text items).sinks)
distances_in text _ = []

-- a nest: the number of its line, and how far its sinks lie before the iteration that names them
pub record NestPart : Type 0 where
  pub line : ℕ
  pub distances : List Distance

abbrev pub parts_by : List ℕ → ℕ → Option ℕ → Stmt → List NestPart → List NestPart
parts_by text n None s inside = inside
parts_by text n (Some d) s inside = record { line = n; distances = distances_in text (nest_body_of d s) } ∷ []

abbrev pub parts_behind : List ℕ → Lines → Option ℕ → Stmt → List NestPart → List NestPart
parts_behind text lines None s inside = inside
parts_behind text lines (Some n) s inside = parts_by text n (ordered_loops (lines n)) s inside

abbrev mutual
  -- those in a statement, in the order of the text
  pub parts_in : List ℕ → Lines → Stmt → List NestPart
  parts_in text lines (Assign x is e) = []
  parts_in text lines (Update x is op e) = []
  parts_in text lines (If c a) = parts_in text lines a
  parts_in text lines (IfElse c a b) = parts_in text lines a ++ parts_in text lines b
  parts_in text lines (For x name start test step body) = parts_in text lines body
  parts_in text lines (Block items) = parts_among text lines None items
  parts_in text lines (Print parts) = []

  -- before: the number of the line before these items
  pub parts_among : List ℕ → Lines → Option ℕ → Items → List NestPart
  parts_among text lines before no_items = []
  parts_among text lines before (mark n rest) = parts_among text lines (line_before text before n) rest
  parts_among text lines before (local x name start rest) = parts_among text lines None rest
  parts_among text lines before (stmt s rest) = parts_behind text lines before s (parts_in text lines s) ++ parts_among text lines None rest

-- those of a kernel
abbrev pub doacross_of : List ℕ → Lines → Kernel → List NestPart
doacross_of text lines k = parts_among text lines None k.body

-- what is told of the nest behind the line of this number: of the first that is there
abbrev pub nest_at : List NestPart → ℕ → Option (List Distance)
nest_at [] line = None
nest_at (p ∷ ps) line = if p.line == line then Some p.distances else nest_at ps line
