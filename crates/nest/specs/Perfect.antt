-- The nests of parallel loops: perfect, rectangular, and with few iterations. (OpenMP 5.2, 4.4.1 to 4.4.3)
use Rattle.std.specs.Prelude.{ℕ, ◌≡◌, ◌≤◌, ◌*◌, ◌^◌, false, List, [], ◌∷◌, Option, Some, None}
use Rattle.semantics.specs.Tree.{Stmt, Assign, Update, If, IfElse, For, Block, Print, Items, no_items, mark, local, stmt, Kernel}
use Rattle.semantics.specs.Source.Text.{line_at}
use Rattle.semantics.specs.Loops.Nest.{Loop, nest_of}
use Rattle.affine.specs.declared.interval.Interval.{Interval}
use Rattle.affine.specs.declared.interval.Side.{Side}
use Rattle.affine_expr.specs.Forms.{is_counter}
use Rattle.nest_loop.specs.declared.head.Canonical.{Canonical}
use Rattle.nest_loop.specs.Canonical.{canonical}
use Rattle.nest_loop.specs.Sides.{CannotWrap, IsSide}
use Rattle.nest_loop.specs.Loops.{IsLoop, inside}
use Rattle.nest_loop.specs.Most.{IsMost}
use Rattle.semantics.specs.Directives.Directive.{Schedule}
use Rattle.pragma.specs.Clauses.{ReadsLoop, doacross_loops}
use Rattle.pragma.specs.Parallel.{associated}

-- the outermost n loops of a statement's perfect nest are so
abbrev pub NestHas : (List Loop → Type 0) → ℕ → Stmt → Type 0
NestHas P n s = (loops : List Loop) × (body : Stmt) × (nest_of n s ≡ Some (loops, body)) × P loops

-- each loop has this form in one box, that of the loops round the nest, so that its bounds mention no variable of the nest; and its variable is none of theirs
abbrev pub AreRectangular : List Side → List Loop → List Canonical → Type 0
AreRectangular box [] [] = Unit {0}
AreRectangular box (h ∷ hs) (l ∷ ls) = (canonical box h.variable h.start h.test h.step ≡ Some l) × (is_counter box h.variable ≡ false) × AreRectangular box hs ls
AreRectangular box [] (l ∷ ls) = ⊥
AreRectangular box (h ∷ hs) [] = ⊥

-- a loop inside those of a box, with these numbers for its variable, turns so often at most
pub record TurnsMost (box : List Side) (h : Loop) (i : Interval) (n : ℕ) : Type 0 where
  pub loop : Canonical
  pub form : canonical box h.variable h.start h.test h.step ≡ Some loop
  pub stays : CannotWrap box loop
  pub numbers : IsSide box loop i
  pub most : IsMost box loop n

-- the greatest counts of loops, the outermost first, multiplied: of each in the box of all loops round it
abbrev pub HasProduct : List Side → List Loop → ℕ → Type 0
HasProduct box [] n = n ≡ 1
HasProduct box (h ∷ hs) n = (i : Interval) × (m k : ℕ) × TurnsMost box h i m × HasProduct (inside box h.variable i) hs k × (n ≡ m * k)

-- a perfect nest, rectangular, with at most so many iterations
abbrev pub IsNestWithin : ℕ → List Side → ℕ → Stmt → Type 0
IsNestWithin most box n s =
    NestHas (λ loops. ((ls : List Canonical) × AreRectangular box loops ls) × ((k : ℕ) × HasProduct box loops k × (k ≤ most))) n s

-- such a nest stands first
abbrev pub FirstNestWithin : ℕ → List Side → ℕ → Items → Type 0
FirstNestWithin most box n no_items = ⊥
FirstNestWithin most box n (mark line rest) = ⊥
FirstNestWithin most box n (local x name start rest) = ⊥
FirstNestWithin most box n (stmt s rest) = IsNestWithin most box n s

-- one with at most 2^24 iterations
abbrev pub IsRightNest : List Side → ℕ → Stmt → Type 0
IsRightNest box n s = IsNestWithin (2 ^ 24) box n s

-- that stands first
abbrev pub RightNestFirst : List Side → ℕ → Items → Type 0
RightNestFirst box n items = FirstNestWithin (2 ^ 24) box n items

-- behind a line such a nest of as many loops as its `parallel for` associates
abbrev pub LineNests : List ℕ → List Side → ℕ → Items → Type 0
LineNests text box line rest = (k : Option Schedule) × (c : Option ℕ) × ReadsLoop (line_at text line) k c × RightNestFirst box (associated c) rest

-- how many iterations a nest may have, by the loops of the doacross nest that its line makes of it, if it makes one (OpenMP 5.2, 4.4.4)
abbrev pub most_iterations : Option ℕ → ℕ
most_iterations None = 2 ^ 24
most_iterations (Some d) = 2 ^ 20

-- where a line makes a doacross nest of the loops behind it, they have at most 2^20 iterations
abbrev pub DoacrossIsSmall : List ℕ → List Side → ℕ → Items → Type 0
DoacrossIsSmall text box line rest =
    (k : Option Schedule) (c : Option ℕ) (reads : ReadsLoop (line_at text line) k c) (d : ℕ) → doacross_loops reads.directive ≡ Some d → FirstNestWithin (2 ^ 20) box (associated c) rest

abbrev mutual
  -- each directive line in a statement inside the loops of a box stands before such a nest, and each loop is canonical
  pub Nests : List ℕ → List Side → Stmt → Type 0
  Nests text box (Assign x is e) = Unit {0}
  Nests text box (Update x is op e) = Unit {0}
  Nests text box (If c a) = Nests text box a
  Nests text box (IfElse c a b) = Nests text box a × Nests text box b
  Nests text box (For x name start test step body) =
      (l : Canonical) × (i : Interval) × IsLoop box x start test step body l i × Nests text (inside box x i) body
  Nests text box (Block items) = ItemsNest text box items
  Nests text box (Print parts) = Unit {0}

  -- of a block's items
  pub ItemsNest : List ℕ → List Side → Items → Type 0
  ItemsNest text box no_items = Unit {0}
  ItemsNest text box (mark line rest) = LineNests text box line rest × ItemsNest text box rest × DoacrossIsSmall text box line rest
  ItemsNest text box (local x name start rest) = ItemsNest text box rest
  ItemsNest text box (stmt s rest) = Nests text box s × ItemsNest text box rest

-- the parallel loops of a kernel have right nests
abbrev pub AreRightNests : List ℕ → Kernel → Type 0
AreRightNests text k = ItemsNest text [] k.body

-- what the first of these items asks for as a directive line before others
abbrev pub FirstLineNests : List ℕ → List Side → Items → Items → Type 0
FirstLineNests text box (mark line items) rest = LineNests text box line rest × DoacrossIsSmall text box line rest
FirstLineNests text box _ rest = Unit {0}

-- and as a statement
abbrev pub FirstNests : List ℕ → List Side → Items → Type 0
FirstNests text box (stmt s items) = Nests text box s
FirstNests text box _ = Unit {0}
