-- Parallel loops whose iterations are shown to be independent, or ordered by the loop's sinks where it is a doacross nest. (OpenMP 5.2, 1.4.1, 11.5 and 15.9.6)
use Rattle.std.specs.Prelude.{ℕ, zero, suc, ◌≡◌, List, [], length, map, Option, Some}
use Rattle.semantics.specs.Tree.{Stmt, Assign, Update, If, IfElse, For, Block, Print, Items, no_items, mark, local, stmt, Kernel}
use Rattle.semantics.specs.Source.Text.{line_at}
use Rattle.semantics.specs.Loops.Nest.{Loop, as_loop}
use Rattle.semantics.specs.Loops.Order.{Distance}
use Rattle.pairtest_counter.specs.Levels.{Nesting}
use Rattle.semantics.specs.Directives.Directive.{Schedule}
use Rattle.pragma.specs.Clauses.{ReadsLoop}
use Rattle.pragma.specs.Parallel.{associated}
use Rattle.pairtest.specs.declared.access.Access.{Access}
use Rattle.pairtest.specs.declared.access.Nest.{Nest}
use Rattle.pairtest_access.specs.Sites.{Site, Sites, IsInside}
use Rattle.pairtest_access.specs.Found.{AreFound, inner_loops}
use Rattle.deptest_verdict.specs.Sinks.{LineSinks}
use Rattle.deptest_verdict.specs.Pairs.{AreShown}

-- the loops round a body, of which the first so many are serial, with these greatest counts: the body's accesses, in order of place, and no pair of them that is not shown to be independent or ordered by one of these sinks
pub record IsShownBody (now : Nesting) (outer : ℕ) (serial : List ℕ) (sinks : List Distance) (body : Stmt) : Type 0 where
  pub sites : List Site
  pub are : Sites now body sites
  pub found : List Access
  pub finds : AreFound (length now.levels) sites found
  pub nest : Nest
  pub counts : nest.serial.items ≡ serial
  pub loops : nest.loops.items ≡ map (λ v. v.most) (inner_loops outer now.levels)
  pub shown : AreShown nest sinks found

-- the same of a body inside so many loops more, each directly in the other
abbrev pub IsShownNest : Nesting → ℕ → List ℕ → List Distance → ℕ → Stmt → Type 0
IsShownNest now outer serial sinks zero s = IsShownBody now outer serial sinks s
IsShownNest now outer serial sinks (suc n) s =
    (h : Loop) × (body : Stmt) × (as_loop s ≡ Some (h, body))
    × (inner : Nesting) × IsInside now h.variable h.start h.test h.step body inner × IsShownNest inner outer serial sinks n body

-- a parallel loop of so many associated loops, inside serial loops, with these sinks
abbrev pub IsShownLoop : Nesting → List Distance → ℕ → Stmt → Type 0
IsShownLoop round sinks n s = IsShownNest round (length round.levels) (map (λ v. v.most) (inner_loops 0 round.levels)) sinks n s

-- such a loop stands first
abbrev pub ShownFirst : Nesting → List Distance → ℕ → Items → Type 0
ShownFirst round sinks n no_items = ⊥
ShownFirst round sinks n (mark line rest) = ⊥
ShownFirst round sinks n (local x name start rest) = ⊥
ShownFirst round sinks n (stmt s rest) = IsShownLoop round sinks n s

-- behind a line, such a loop of as many as its `parallel for` associates, with the sinks of this line
abbrev pub LineShown : List ℕ → LineSinks → Nesting → ℕ → Items → Type 0
LineShown text sinks round line rest = (k : Option Schedule) × (c : Option ℕ) × ReadsLoop (line_at text line) k c × ShownFirst round (sinks line) (associated c) rest

abbrev mutual
  -- each parallel loop in a statement inside serial loops is so
  pub LoopsShown : List ℕ → LineSinks → Nesting → Stmt → Type 0
  LoopsShown text sinks round (Assign x is e) = Unit {0}
  LoopsShown text sinks round (Update x is op e) = Unit {0}
  LoopsShown text sinks round (If c a) = LoopsShown text sinks round a
  LoopsShown text sinks round (IfElse c a b) = LoopsShown text sinks round a × LoopsShown text sinks round b
  LoopsShown text sinks round (For x name start test step body) = (inner : Nesting) × IsInside round x start test step body inner × LoopsShown text sinks inner body
  LoopsShown text sinks round (Block items) = ItemsShown text sinks round items
  LoopsShown text sinks round (Print parts) = Unit {0}

  -- of a block's items
  pub ItemsShown : List ℕ → LineSinks → Nesting → Items → Type 0
  ItemsShown text sinks round no_items = Unit {0}
  ItemsShown text sinks round (mark line rest) = LineShown text sinks round line rest × ItemsShown text sinks round rest
  ItemsShown text sinks round (local x name start rest) = ItemsShown text sinks round rest
  ItemsShown text sinks round (stmt s rest) = LoopsShown text sinks round s × ItemsShown text sinks round rest

-- no loop at all
abbrev pub no_loops : Nesting
no_loops = record { box = []; levels = [] }

-- the iterations of each parallel loop of a kernel are shown to be independent, or ordered by the loop's sinks
abbrev pub AreShownLoops : List ℕ → LineSinks → Kernel → Type 0
AreShownLoops text sinks k = ItemsShown text sinks no_loops k.body

-- what the first of these items asks for as a directive line before others
abbrev pub FirstLineShown : List ℕ → LineSinks → Nesting → Items → Items → Type 0
FirstLineShown text sinks round (mark line items) rest = LineShown text sinks round line rest
FirstLineShown text sinks round _ rest = Unit {0}

-- and as a statement
abbrev pub FirstLoopsShown : List ℕ → LineSinks → Nesting → Items → Type 0
FirstLoopsShown text sinks round (stmt s items) = LoopsShown text sinks round s
FirstLoopsShown text sinks round _ = Unit {0}
