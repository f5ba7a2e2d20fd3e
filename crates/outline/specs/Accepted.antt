-- What holds of the statements of an accepted kernel before they are outlined. (OpenMP 5.2, 4.4.1 and 11.5)
use Rattle.std.specs.Prelude.{ℕ, ◌≡◌, ◌<◌, ◌≤◌, true, List, [], length, Option, Some, None, Contains, slice_get}
use Rattle.semantics.specs.Tree.{Variable, Stmt, Assign, Update, If, IfElse, For, Block, Print, Items, no_items, mark, local, stmt}
use Rattle.semantics.specs.Meaning.Agrees.{is_among}
use Rattle.semantics.specs.Loops.Nest.{Loop, nest_of}
use Rattle.law_commute.specs.Targets.{targets_outside}
use Rattle.ktree.specs.View.{stmt_of}
use Rattle.ktree.specs.declared.place.Place.{Place}
use Rattle.ktree.specs.declared.statement.Item.{Item, Directive, Local, Statement'}
use Rattle.affine.specs.declared.interval.Interval.{Interval}
use Rattle.affine.specs.declared.interval.Side.{Side}
use Rattle.nest_loop.specs.Loops.{IsLoop, inside}
use Rattle.nest_loop.specs.declared.head.Canonical.{Canonical}
use Rattle.nest.specs.Perfect.{IsRightNest}
use Rattle.pragma.specs.Parallel.{associated}
use Rattle.flow.specs.declared.environment.ParallelLoop.{ParallelLoop}
use Rattle.lower_code.specs.declared.laid.Laid.{Laid}
use Rattle.lower_code.specs.Layout.{shapes_of, spot}

-- a scalar has its place: at file scope the one cell that the layout tells, and a local has a register (C11 6.2.1)
pub record HasPlace (layout : List Laid) (registers : ℕ) (x : Variable) : Type 0 where
  pub cell : (own : Laid) → slice_get layout x ≡ Some own → spot (shapes_of layout) x [] ≡ Some own.first
  pub register : length layout ≤ x → x < registers

-- so has each that a statement assigns and does not declare
abbrev pub HavePlaces : List Laid → ℕ → Stmt → Type 0
HavePlaces layout registers s = (x : Variable) → is_among (targets_outside s) x ≡ true → HasPlace layout registers x

-- a statement is a right nest of so many loops, at most four, and each scalar that it assigns from outside has its place
pub record IsPlacedNest (layout : List Laid) (registers : ℕ) (box : List Side) (n : ℕ) (s : Stmt) : Type 0 where
  pub nest : IsRightNest box n s
  pub few : n ≤ 4
  pub places : HavePlaces layout registers s

-- one of these loops, which stands behind the directive line of this number
abbrev pub StandsAt : List ParallelLoop → ℕ → ParallelLoop → Type 0
StandsAt loops line l = Contains loops l × (l.line.line ≡ line)

-- one of these loops stands behind the line of this number, and whichever does, the statement is a right nest of as many loops as it associates; each scalar that it assigns from outside has its place
pub record IsLoopOf (layout : List Laid) (registers : ℕ) (loops : List ParallelLoop) (box : List Side) (line : ℕ) (s : Stmt) : Type 0 where
  pub parallel : ParallelLoop
  pub stands : StandsAt loops line parallel
  pub nest : (l : ParallelLoop) → StandsAt loops line l → IsRightNest box (associated l.directive.collapse) s
  pub places : HavePlaces layout registers s

-- such a statement stands first
abbrev pub LoopFirst : List Laid → ℕ → List ParallelLoop → List Side → ℕ → Items → Type 0
LoopFirst layout registers loops box line (stmt s rest) = IsLoopOf layout registers loops box line s
LoopFirst layout registers loops box line _ = ⊥

abbrev mutual
  -- in a statement inside the loops of a box each loop is canonical, and behind each directive line stands one of these parallel loops
  pub HasRightLoops : List Laid → ℕ → List ParallelLoop → List Side → Stmt → Type 0
  HasRightLoops layout registers loops box (Assign x is e) = Unit {0}
  HasRightLoops layout registers loops box (Update x is op e) = Unit {0}
  HasRightLoops layout registers loops box (If c a) = HasRightLoops layout registers loops box a
  HasRightLoops layout registers loops box (IfElse c a b) = HasRightLoops layout registers loops box a × HasRightLoops layout registers loops box b
  HasRightLoops layout registers loops box (For x name start test step body) =
      (l : Canonical) × (i : Interval) × IsLoop box x start test step body l i × HasRightLoops layout registers loops (inside box x i) body
  HasRightLoops layout registers loops box (Block items) = HaveRightLoops layout registers loops box items
  HasRightLoops layout registers loops box (Print parts) = Unit {0}

  -- so in a block's items
  pub HaveRightLoops : List Laid → ℕ → List ParallelLoop → List Side → Items → Type 0
  HaveRightLoops layout registers loops box no_items = Unit {0}
  HaveRightLoops layout registers loops box (mark line rest) = LoopFirst layout registers loops box line rest × HaveRightLoops layout registers loops box rest
  HaveRightLoops layout registers loops box (local x name start rest) = HaveRightLoops layout registers loops box rest
  HaveRightLoops layout registers loops box (stmt s rest) = HasRightLoops layout registers loops box s × HaveRightLoops layout registers loops box rest

-- a statement behind such a line is its loop, and behind none its loops are right
abbrev pub IsRightBehind : List Laid → ℕ → List ParallelLoop → List Side → Option Place → Stmt → Type 0
IsRightBehind layout registers loops box None s = HasRightLoops layout registers loops box s
IsRightBehind layout registers loops box (Some line) s = IsLoopOf layout registers loops box line.line s

-- so of an item
abbrev pub ItemIsRight : List Laid → ℕ → List ParallelLoop → List Side → Option Place → Item → Type 0
ItemIsRight layout registers loops box d (Directive place) = Unit {0}
ItemIsRight layout registers loops box d (Local l) = Unit {0}
ItemIsRight layout registers loops box d (Statement' p s) = IsRightBehind layout registers loops box d (stmt_of s)

-- and of items, the first of which stands behind such a line or behind none
abbrev pub ItemsAreRight : List Laid → ℕ → List ParallelLoop → List Side → Option Place → Items → Type 0
ItemsAreRight layout registers loops box None items = HaveRightLoops layout registers loops box items
ItemsAreRight layout registers loops box (Some line) items = LoopFirst layout registers loops box line.line items × HaveRightLoops layout registers loops box items

-- a statement is so many loops, one directly in the other
abbrev pub HasNest : ℕ → Stmt → Type 0
HasNest n s = (p : List Loop × Stmt) × (nest_of n s ≡ Some p)
