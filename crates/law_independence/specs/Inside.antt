-- What the grammar says of the loops of a body, and of the lengths of arrays. (C11 6.7.6.2, 6.8.5.3)
use Rattle.std.specs.Prelude.{ℕ, ◌≡◌, ◌<◌, ◌^◌, false, List, [], ◌∷◌}
use Rattle.semantics.specs.Tree.{Stmt, Assign, Update, If, IfElse, For, Block, Print, Items, no_items, mark, local, stmt, Declaration}
use Rattle.semantics.specs.Source.Token.{Token}
use Rattle.semantics.specs.Source.Scope.{Scope}
use Rattle.semantics.specs.Source.Statements.{ReadsIncrement}
use Rattle.semantics.specs.Loops.Nest.{Loop}
use Rattle.affine.specs.declared.interval.Interval.{Interval}
use Rattle.affine.specs.declared.interval.Side.{Side}
use Rattle.affine_expr.specs.Forms.{is_counter}
use Rattle.nest_loop.specs.declared.head.Canonical.{Canonical}
use Rattle.nest_loop.specs.Constants.{Each, IsSmall}
use Rattle.nest_loop.specs.Loops.{IsLoop, inside}

-- the text has this loop inside those of a box: its step was read where enum constants are small, and its variable is none of theirs (C11 6.8.5.3, 6.2.1)
pub record IsRead (box : List Side) (h : Loop) : Type 0 where
  pub scope : Scope
  pub order : ℕ
  pub tokens : List Token
  pub small : Each IsSmall scope
  pub reads : ReadsIncrement scope order tokens h.step
  pub other : is_counter box h.variable ≡ false

abbrev mutual
  -- so each loop of a statement, inside those round it
  pub LoopsAreRead : List Side → Stmt → Type 0
  LoopsAreRead box (Assign x is e) = Unit {0}
  LoopsAreRead box (Update x is op e) = Unit {0}
  LoopsAreRead box (If c a) = LoopsAreRead box a
  LoopsAreRead box (IfElse c a b) = LoopsAreRead box a × LoopsAreRead box b
  LoopsAreRead box (For x name start test step body) =
      IsRead box (record { variable = x; start = start; test = test; step = step })
      × ((l : Canonical) (i : Interval) → IsLoop box x start test step body l i → LoopsAreRead (inside box x i) body)
  LoopsAreRead box (Block items) = ItemsAreRead box items
  LoopsAreRead box (Print parts) = Unit {0}

  -- of a block's items
  pub ItemsAreRead : List Side → Items → Type 0
  ItemsAreRead box no_items = Unit {0}
  ItemsAreRead box (mark line rest) = ItemsAreRead box rest
  ItemsAreRead box (local x name start rest) = ItemsAreRead box rest
  ItemsAreRead box (stmt s rest) = LoopsAreRead box s × ItemsAreRead box rest

-- numbers of uint64_t
abbrev pub AreShort : List ℕ → Type 0
AreShort [] = Unit {0}
AreShort (n ∷ ns) = (n < 2 ^ 64) × AreShort ns

-- the lengths of these variables are such
abbrev pub HaveShort : List Declaration → Type 0
HaveShort [] = Unit {0}
HaveShort (d ∷ ds) = AreShort d.lengths × HaveShort ds
