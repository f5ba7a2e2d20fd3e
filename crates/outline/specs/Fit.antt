-- Outlines whose code does what their statements do. (C11 6.8)
use Rattle.std.specs.Prelude.{ℕ, ◌≡◌, ◌≤◌, true, List, [], ◌∷◌, ◌++◌, length, map, Contains, Some, None}
use Rattle.semantics.specs.Tree
use Rattle.semantics.specs.Tree.{Variable, Stmt, Declaration}
use Rattle.semantics.specs.Meaning.Agrees.{is_among, declared_in}
use Rattle.semantics.specs.Meaning.Runs.{declared, incremented, run, run_items}
use Rattle.semantics.specs.Loops.Nest.{Loop, nest_of}
use Rattle.semantics.specs.Loops.Operator.{ReduceOp}
use Rattle.semantics.specs.Loops.Piece.{Roles}
use Rattle.ktree.specs.View.{source_of, cond_of, increment_of, stmt_of, with_item}
use Rattle.ktree.specs.declared.statement.Head.{Head}
use Rattle.affine.specs.declared.interval.Side.{Side}
use Rattle.affine_expr.specs.Forms.{is_counter}
use Rattle.nest.specs.Heads.{head_of}
use Rattle.flow.specs.Roles.{LoopData, LineData}
use Rattle.law_commute.specs.Targets.{targets_outside}
use Rattle.law_scans.specs.Scanning.{whole_of, first_of}
use Rattle.law_independence.specs.Said.{SaidInside}
use Rattle.law_independence.specs.OrderLaws.{SharesAsNest}
use Rattle.law_ranges.specs.Spaces.{RunsFewAtTurns}
use Rattle.lower_code.specs.declared.laid.Laid.{Laid}
use Rattle.lower_code.specs.Meaning.{MeansTest, AreLocals}
use Rattle.lower_block.specs.declared.tree.Compiled.{Compiled}
use Rattle.lower_run.specs.Walk.{Performs}
use Rattle.lower.specs.declared.lowered.LoweredLoop.{LoweredLoop}
use Rattle.lower.specs.Lowered.{IsLoweredFrom}
use Rattle.outline.specs.declared.shape.LoweredHead.{LoweredHead}
use Rattle.outline.specs.declared.shape.TeamLoop.{TeamLoop}
use Rattle.outline.specs.declared.shape.Way.{Way}
use Rattle.outline.specs.declared.shape.Way.TheVariants.{Chunks, Scan, Waves, Alone}
use Rattle.outline.specs.declared.shape.Outline.{Outline, Serial, Team, If', For', Block', Held-Outline-If-3, None', Some', Row_of-OutlineItem, end_of-OutlineItem, more_of-OutlineItem}
use Rattle.outline.specs.declared.shape.OutlineItem.{OutlineItem, Plain, Statement'}
use Rattle.outline.specs.View.{roles_in}

-- what a loop's variable takes first, and what the loop does behind each turn
abbrev pub EntryPerforms : List Laid → ℕ → Head → Compiled → Type 0
EntryPerforms layout mark h compiled = Performs layout mark (λ s. declared s h.variable.0 (Some (source_of h.start))) compiled

abbrev pub StepPerforms : List Laid → ℕ → Head → Compiled → Type 0
StepPerforms layout mark h compiled = Performs layout mark (λ s. incremented s (increment_of h.step)) compiled

-- so does the code of a loop's head
pub record HeadFits (layout : List Laid) (mark : ℕ) (h : Head) (l : LoweredHead) : Type 0 where
  pub entry : EntryPerforms layout mark h l.entry
  pub test : MeansTest layout (cond_of h.test) l.test
  pub step : StepPerforms layout mark h l.step

-- a loop that carries one variable and assigns it is lowered twice, each time with its loops and roles: for what the first pass of a scan runs, and for the whole (OpenMP 5.2, 5.6)
pub record ScanFits (layout : List Laid) (mark : ℕ) (box : List Side) (roles : Roles) (ds : List Declaration) (d : LoopData) (said : SaidInside) (serial : List Loop) (n : ℕ) (s : Stmt) (nested : SharesAsNest ds d said serial n s) (earlier later : LoweredLoop) : Type 0 where
  pub variable : Variable
  pub operator : ReduceOp
  pub sole : d.carried ≡ (variable, operator) ∷ []
  pub assigned : is_among (targets_outside s) variable ≡ true
  pub first : let its = nested.scans variable operator sole assigned in IsLoweredFrom layout mark box roles its.loops (first_of its.inclusive its.front its.back) earlier
  pub second : let its = nested.scans variable operator sole assigned in IsLoweredFrom layout mark box roles its.loops (whole_of its.front its.back) later

-- a loop may be run in the way that is said: in chunks where it carries nothing and has no sinks, in two passes where it is lowered for them, and in the waves of the sinks that it has
abbrev pub WayFits : List Laid → ℕ → List Side → Roles → (ds : List Declaration) (d : LoopData) (said : SaidInside) (serial : List Loop) (n : ℕ) (s : Stmt) → SharesAsNest ds d said serial n s → LoweredLoop → Way → Type 0
WayFits layout mark box roles ds d said serial n s nested second Chunks = (d.carried ≡ []) × (said.sinks ≡ None)
WayFits layout mark box roles ds d said serial n s nested second (Scan first) = ScanFits layout mark box roles ds d said serial n s nested first second
WayFits layout mark box roles ds d said serial n s nested second (Waves sinks) = said.sinks ≡ Some sinks.distances
WayFits layout mark box roles ds d said serial n s nested second Alone = Unit {0}

-- a loop for a team is lowered from a nest inside serial loops with what its line says of the scalars that it assigns, it runs few iterations wherever it is reached, it may be run in the way that is said of it, and its code does what the loop does
pub record TeamFits (layout : List Laid) (mark : ℕ) (R : LineData) (serial : List Loop) (l : TeamLoop) : Type 0 where
  pub loops : List Loop
  pub body : Stmt
  pub nest : nest_of l.depth (stmt_of l.statement.now) ≡ Some (loops, body)
  pub box : List Side
  pub known : (x : Variable) → is_counter box x ≡ true → Contains (map (λ h. h.variable) serial) x
  pub lowered : IsLoweredFrom layout mark box (roles_in R l) loops body l.lowered
  pub locals : AreLocals layout mark (declared_in (stmt_of l.statement.now))
  pub code : Performs layout mark (run (stmt_of l.statement.now)) l.code
  pub privates : (x : Variable) → is_among (roles_in R l).privates x ≡ true → length layout ≤ x
  pub declarations : List Declaration
  pub said : SaidInside
  pub nested : SharesAsNest declarations (R l.line) said serial l.depth (stmt_of l.statement.now)
  pub runs : RunsFewAtTurns serial l.depth (stmt_of l.statement.now)
  pub way : WayFits layout mark box (roles_in R l) declarations (R l.line) said serial l.depth (stmt_of l.statement.now) nested l.lowered l.way

abbrev mutual
  -- so does all code of an outline inside serial loops
  pub Fits : List Laid → ℕ → LineData → List Loop → Outline → Type 0
  Fits layout mark R serial (Serial code s) = Performs layout mark (run (stmt_of s.now)) code
  Fits layout mark R serial (Team l) = TeamFits layout mark R serial l
  Fits layout mark R serial (If' test c p a b) = MeansTest layout (cond_of c.now) test × Fits layout mark R serial a × ElseFits layout mark R serial b
  Fits layout mark R serial (For' lowered head p body) = HeadFits layout mark head.now lowered × Fits layout mark R (serial ++ head_of head.now ∷ []) body
  Fits layout mark R serial (Block' _ items) = RowFits layout mark R serial items

  -- behind `else`
  pub ElseFits : List Laid → ℕ → LineData → List Loop → Held-Outline-If-3 → Type 0
  ElseFits layout mark R serial None' = Unit {0}
  ElseFits layout mark R serial (Some' p b) = Fits layout mark R serial b

  -- in an item
  pub ItemFits : List Laid → ℕ → LineData → List Loop → OutlineItem → Type 0
  ItemFits layout mark R serial (Plain code i) = Performs layout mark (run_items (with_item i.now Tree.no_items)) code
  ItemFits layout mark R serial (Statement' p s) = Fits layout mark R serial s

  -- in a block
  pub RowFits : List Laid → ℕ → LineData → List Loop → {m : _} → Row_of-OutlineItem m → Type 0
  RowFits layout mark R serial end_of-OutlineItem = Unit {0}
  RowFits layout mark R serial (more_of-OutlineItem i rest) = ItemFits layout mark R serial i × RowFits layout mark R serial rest

-- in each item of a list
abbrev pub AllFit : List Laid → ℕ → LineData → List Loop → List OutlineItem → Type 0
AllFit layout mark R serial [] = Unit {0}
AllFit layout mark R serial (i ∷ is) = ItemFits layout mark R serial i × AllFit layout mark R serial is

-- where the locals of these numbers have registers
abbrev pub WithLocals : List Laid → ℕ → List ℕ → Type 0 → Type 0
WithLocals layout mark xs P = AreLocals layout mark xs → P
