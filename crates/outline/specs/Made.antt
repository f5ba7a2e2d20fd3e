-- Outlines that are made of statements inside the loops of a box. (C11 6.8; OpenMP 5.2, 11.5)
use Rattle.std.specs.Prelude.{ℕ, ◌≡◌, List, [], ◌∷◌, length, Option, Some, None, string_bytes}
use Rattle.semantics.specs.Tree
use Rattle.semantics.specs.Tree.{Stmt}
use Rattle.semantics.specs.Source.Text.{line_at}
use Rattle.semantics.specs.Directives.Directive.{Schedule}
use Rattle.semantics.specs.Meaning.State.{State}
use Rattle.semantics.specs.Meaning.Agrees.{declared_in, declared_among}
use Rattle.semantics.specs.Meaning.Runs.{Effect, then_from}
use Rattle.semantics.specs.Loops.Nest.{Loop}
use Rattle.ktree.specs.View.{source_of, cond_of, increment_of, stmt_of, with_item}
use Rattle.ktree.specs.declared.place.Place.{Place}
use Rattle.ktree.specs.declared.statement.Head.{Head}
use Rattle.ktree.specs.declared.statement.Item.{Item, Directive, Local, Statement'}
use Rattle.affine.specs.declared.interval.Interval.{Interval}
use Rattle.affine.specs.declared.interval.Side.{Side}
use Rattle.nest_loop.specs.Loops.{inside}
use Rattle.pragma.specs.Clauses.{ReadsLoop}
use Rattle.pragma.specs.Parallel.{associated}
use Rattle.flow.specs.Roles.{left_roles, LineData, AskedByLine, LoopsHaveBy}
use Rattle.law_independence.specs.Said.{LinesInside}
use Rattle.law_independence.specs.OrderLaws.{SharesBy, used_roles}
use Rattle.law_ranges.specs.Spaces.{RunsFewAtTurns}
use Rattle.law_apart.specs.Apart.{handed, apart, apart_items, apart_behind}
use Rattle.lower_code.specs.declared.laid.Laid.{Laid}
use Rattle.lower_code.specs.Meaning.{AreLocals}
use Rattle.outline.specs.declared.handing.Loops.{Loops}
use Rattle.outline.specs.declared.shape.Outline.{Outline}
use Rattle.outline.specs.declared.shape.OutlineItem.{OutlineItem}
use Rattle.outline.specs.Given.{IsGiven}
use Rattle.outline.specs.Fit.{Fits, ItemFits}
use Rattle.outline.specs.View.{performed, item_performed}

-- where the directive line stands that an item is
abbrev pub line_of : Item → Option Place
line_of (Directive place) = Some place
line_of (Local l) = None
line_of (Statement' p s) = None

-- the loop with this head and body
abbrev pub loop_with : Head → Stmt → Stmt
loop_with head body = Tree.For head.variable.0 (string_bytes head.name) (source_of head.start) (cond_of head.test) (increment_of head.step) body

-- the box inside this loop, whatever numbers its variable has
abbrev pub IsInside : Head → List Side → List Side → Type 0
IsInside head box within = (i : Interval) × (within ≡ inside box head.variable.0 i)

-- what a statement does behind such a line or behind none, and what items do
abbrev pub run_behind : LineData → Option Place → List Loop → Stmt → State → Option Effect
run_behind R None serial a = apart R serial a
run_behind R (Some line) serial a = handed (used_roles a (left_roles (R line.line))) serial a

abbrev pub items_behind : LineData → Option Place → List Loop → Tree.Items → State → Option Effect
items_behind R None serial items = apart_items R serial items
items_behind R (Some line) serial items = apart_behind R line.line serial items

-- what is known of a loop by the number of its line: it may be run in chunks or in waves, and runs few iterations wherever it is reached
pub record IsKnown (ds : List Tree.Declaration) (R : LineData) (P : LinesInside) (line : ℕ) (serial : List Loop) (n : ℕ) (s : Stmt) : Type 0 where
  pub shares : SharesBy ds R P line serial n s
  pub runs : RunsFewAtTurns serial n s

-- of each loop behind a line
abbrev pub KnownBy : List Tree.Declaration → LineData → LinesInside → AskedByLine
KnownBy ds R P line serial n s = IsKnown ds R P line serial n s

-- so much is known of the parallel loops of a statement, and behind a line of that statement itself, as many loops of it as the line associates
abbrev pub KnownBehind : List ℕ → List Tree.Declaration → LineData → LinesInside → List Loop → Option Place → Stmt → Type 0
KnownBehind text ds R P serial None a = LoopsHaveBy text (KnownBy ds R P) serial a
KnownBehind text ds R P serial (Some line) a = (k : Option Schedule) × (c : Option ℕ) × ReadsLoop (line_at text line.line) k c × KnownBy ds R P line.line serial (associated c) a

abbrev pub ItemKnown : List ℕ → List Tree.Declaration → LineData → LinesInside → List Loop → Option Place → Item → Type 0
ItemKnown text ds R P serial d (Directive place) = Unit {0}
ItemKnown text ds R P serial d (Local l) = Unit {0}
ItemKnown text ds R P serial d (Statement' p s) = KnownBehind text ds R P serial d (stmt_of s)

-- an outline does what its statement does behind such a line or behind none, and its code fits where the statement is one of an accepted kernel
pub record IsMade (layout : List Laid) (mark : ℕ) (loops : Loops) (box : List Side) (d : Option Place) (a : Stmt) (o : Outline) : Type 0 where
  pub performs : (R : LineData) (serial : List Loop) → performed R serial o ≡ run_behind R d serial a
  pub fits : (text : List ℕ) (ds : List Tree.Declaration) (R : LineData) (P : LinesInside) (serial : List Loop) → IsGiven (length layout) mark text R P loops serial box → KnownBehind text ds R P serial d a → AreLocals layout mark (declared_in a) → Fits layout mark R serial o

-- one of an item does what the item does before others
pub record IsMadeItem (layout : List Laid) (mark : ℕ) (loops : Loops) (box : List Side) (d : Option Place) (item : Item) (o : OutlineItem) : Type 0 where
  pub performs : (R : LineData) (serial : List Loop) (rest : Tree.Items) → items_behind R d serial (with_item item rest) ≡ (λ s. then_from s (item_performed R serial o s) (items_behind R (line_of item) serial rest))
  pub fits : (text : List ℕ) (ds : List Tree.Declaration) (R : LineData) (P : LinesInside) (serial : List Loop) → IsGiven (length layout) mark text R P loops serial box → ItemKnown text ds R P serial d item → AreLocals layout mark (declared_among (with_item item Tree.no_items)) → ItemFits layout mark R serial o

-- those of items, the first of which stands behind such a line or behind none
abbrev pub AreMade : List Laid → ℕ → Loops → List Side → Option Place → List Item → List OutlineItem → Type 0
AreMade layout mark loops box d [] [] = Unit {0}
AreMade layout mark loops box d [] (o ∷ os) = ⊥
AreMade layout mark loops box d (i ∷ is) [] = ⊥
AreMade layout mark loops box d (i ∷ is) (o ∷ os) = IsMadeItem layout mark loops box d i o × AreMade layout mark loops box (line_of i) is os
