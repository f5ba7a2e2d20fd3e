-- Which statements are handed to a team, and as what. (OpenMP 5.2, 4.4.3 and 11.5)
use Rattle.std.specs.Prelude.{ℕ, Bool, ◌≡◌, ◌<◌, ◌≤◌, true, List, [], ◌∷◌, ◌++◌, length, map, All, Contains, Some, None}
use Rattle.semantics.specs.Tree.{Variable, Stmt, Items}
use Rattle.semantics.specs.Source.Text.{line_at}
use Rattle.semantics.specs.Meaning.Runs.{run, run_items}
use Rattle.semantics.specs.Meaning.Agrees.{is_among, declared_in, declared_among}
use Rattle.semantics.specs.Loops.Nest.{Loop, nest_of}
use Rattle.semantics.specs.Loops.Operator.{ReduceOp}
use Rattle.semantics.specs.Loops.Order.{Distance}
use Rattle.semantics.specs.Loops.Piece.{Roles}
use Rattle.ktree.specs.declared.place.Place.{Place}
use Rattle.ktree.specs.declared.place.VarId.{VarId}
use Rattle.ktree.specs.View.{stmt_of}
use Rattle.affine.specs.declared.interval.Side.{Side}
use Rattle.affine_expr.specs.Forms.{is_counter}
use Rattle.pragma.specs.Clauses.{ReadsLoop}
use Rattle.pragma.specs.Parallel.{associated}
use Rattle.pragma.specs.Views.{scheduled}
use Rattle.nest.specs.Perfect.{AreRectangular}
use Rattle.flow_reduction.specs.Reduced.{reduced}
use Rattle.flow.specs.Phases.{item_count}
use Rattle.flow.specs.Roles.{LineData}
use Rattle.flow.specs.Parallel.{numbers, AreRolesOf}
use Rattle.flow.specs.declared.environment.LoopRoles.{LoopRoles}
use Rattle.flow.specs.declared.environment.ParallelLoop.{ParallelLoop}
use Rattle.flow_doacross.specs.Listed.{nest_at}
use Rattle.flow_doacross.specs.Views.{nest_part}
use Rattle.flow_scan.specs.Views.{scan_part, phases_at}
use Rattle.law_commute.specs.Targets.{targets_outside}
use Rattle.law_scans.specs.Phases.{input_of}
use Rattle.law_scans.specs.Scanning.{whole_of}
use Rattle.law_independence.specs.Said.{LinesInside}
use Rattle.law_independence.specs.OrderLaws.{used_roles}
use Rattle.lower_code.specs.declared.laid.Laid.{Laid}
use Rattle.lower_code.specs.Meaning.{AreLocals}
use Rattle.lower_block.specs.declared.tree.Compiled.{Compiled}
use Rattle.lower_run.specs.Walk.{Performs}
use Rattle.lower.specs.Roles.{AreRolesAt}
use Rattle.lower.specs.declared.lowered.LoweredLoop.{LoweredLoop}
use Rattle.outline.specs.Accepted.{StandsAt}
use Rattle.outline.specs.declared.handing.Loops.{Loops}
use Rattle.outline.specs.declared.shape.TeamLoop.{TeamLoop}
use Rattle.outline.specs.declared.shape.Way.{Way}
use Rattle.outline.specs.declared.shape.Way.TheVariants.{Chunks, Scan, Waves, Alone}

-- the directive line of a loop says what is kept of it
pub record IsOfText (text : List ℕ) (R : LineData) (l : ParallelLoop) : Type 0 where
  pub reads : ReadsLoop (line_at text l.line.line) (scheduled l.directive) l.directive.collapse
  pub roles : AreRolesOf (R l.line.line) l.roles

-- so it is of each of some loops
abbrev pub AreOfText : List ℕ → LineData → List ParallelLoop → Type 0
AreOfText text R loops = All (IsOfText text R) loops

-- what is told of the lines inside the loop behind each line: the phases of scans, and how far the sinks of doacross nests lie
abbrev pub inside_told : Loops → LinesInside
inside_told loops line = record { phases = phases_at (map scan_part loops.scans.now) line; sinks = nest_at (map nest_part loops.nests.now) line }

-- the locals among the variables of a box stand in a list, and nothing else does
pub record ListsLocals (mark : ℕ) (box : List Side) (variables : List VarId) : Type 0 where
  pub each : (x : Variable) → x < mark → is_counter box x ≡ true → Contains (map (λ v. v.0) variables) x
  pub only : (x : Variable) → Contains (map (λ v. v.0) variables) x → is_counter box x ≡ true

-- a statement is so many loops, one directly in the other, with this body
abbrev pub IsBodyOf : ℕ → Stmt → Stmt → Type 0
IsBodyOf n s body = (loops : List Loop) × (nest_of n s ≡ Some (loops, body))

-- code does what its body does
pub record IsBodyCode (layout : List Laid) (mark : ℕ) (n : ℕ) (s : Stmt) (code : Compiled) : Type 0 where
  pub body : Stmt
  pub is : IsBodyOf n s body
  pub performs : AreLocals layout mark (declared_in body) → Performs layout mark (run body) code

-- the roles by which a loop leaves its scalars, of those that are kept: a carried variable is left as a reduction variable
abbrev pub roles_of : LoopRoles → Roles
roles_of l =
    record {
      privates = [];
      firsts = [];
      lasts = numbers l.lasts.items;
      conditionals = [];
      reductions = reduced l.reductions.items ++ reduced l.carried.items;
    }

-- of a body with so many items in front of its `scan` line, this is what stands in its input phase (OpenMP 5.2, 5.6)
abbrev pub IsInputOf : Bool → ℕ → Stmt → Items → Type 0
IsInputOf inclusive count body part = (front back : Items) → body ≡ whole_of front back → item_count front ≡ count → part ≡ input_of inclusive front back

-- so of the body of so many loops
abbrev pub IsInputIn : Bool → ℕ → ℕ → Stmt → Items → Type 0
IsInputIn inclusive count n s part = (body : Stmt) × IsBodyOf n s body × IsInputOf inclusive count body part

-- code does what these items do
abbrev pub AreItemsCode : List Laid → ℕ → Items → Compiled → Type 0
AreItemsCode layout mark part code = AreLocals layout mark (declared_among part) → Performs layout mark (run_items part) code

-- one variable is carried, and the loop assigns it from outside
pub record CarriesOne (carried : List (Variable × ReduceOp)) (s : Stmt) : Type 0 where
  pub variable : Variable
  pub operator : ReduceOp
  pub sole : carried ≡ (variable, operator) ∷ []
  pub assigned : is_among (targets_outside s) variable ≡ true

-- a lowered loop is this nest inside the loops of a box: its loops, at most four, in their canonical form, and where those of its variables stand that it assigns from outside and that leave something behind it
pub record IsLowered (layout : List Laid) (mark : ℕ) (box : List Side) (n : ℕ) (s : Stmt) (kept : LoopRoles) (l : LoweredLoop) : Type 0 where
  pub loops : List Loop
  pub body : Stmt
  pub nest : nest_of n s ≡ Some (loops, body)
  pub around : ListsLocals mark box l.around.items
  pub heads : AreRectangular box loops l.loops.items
  pub few : length l.loops.items ≤ 4
  pub roles : AreRolesAt layout mark (used_roles s (roles_of kept)) l.roles

-- what the first pass of a scan runs is lowered from the same nest, with its input phase in place of its body (OpenMP 5.2, 5.6)
pub record IsFirstHanded (layout : List Laid) (mark : ℕ) (box : List Side) (inside : LinesInside) (line n : ℕ) (s : Stmt) (kept : LoopRoles) (first : LoweredLoop) : Type 0 where
  pub carries : CarriesOne (reduced kept.carried.items) s
  pub inclusive : Bool
  pub count : ℕ
  pub told : (inside line).phases ≡ Some (inclusive, count)
  pub part : Items
  pub input : IsInputIn inclusive count n s part
  pub lowered : IsLowered layout mark box n s kept first
  pub code : AreItemsCode layout mark part first.body

-- a loop with these sinks may be run in their waves, or by one worker (OpenMP 5.2, 15.9.6)
abbrev pub IsWavesOf : List Distance → Way → Type 0
IsWavesOf ds (Waves sinks) = sinks.distances ≡ ds
IsWavesOf ds Alone = Unit {0}
IsWavesOf ds _ = ⊥

-- the way in which a loop may be run
abbrev pub IsWay : List Laid → ℕ → List Side → LinesInside → ℕ → ℕ → Stmt → LoopRoles → Way → Type 0
IsWay layout mark box inside line n s kept Chunks = (reduced kept.carried.items ≡ []) × ((inside line).sinks ≡ None)
IsWay layout mark box inside line n s kept (Scan first) = IsFirstHanded layout mark box inside line n s kept first
IsWay layout mark box inside line n s kept (Waves sinks) = (inside line).sinks ≡ Some sinks.distances
IsWay layout mark box inside line n s kept Alone = Unit {0}

-- a statement behind the directive line at this place is handed over, as many loops of it as that line associates, with its schedule (OpenMP 5.2, 11.5.3) and the way in which it may be run, and with code of its body and of the whole
pub record IsHanded (layout : List Laid) (mark : ℕ) (box : List Side) (loops : Loops) (line : Place) (s : Stmt) (l : TeamLoop) : Type 0 where
  pub parallel : ParallelLoop
  pub stands : StandsAt loops.parallel.now line.line parallel
  pub statement : stmt_of l.statement.now ≡ s
  pub at : l.line ≡ line.line
  pub depth : l.depth ≡ associated parallel.directive.collapse
  pub schedule : l.lowered.schedule ≡ parallel.directive.schedule
  pub way : IsWay layout mark box (inside_told loops) line.line l.depth s parallel.roles l.way
  pub lowered : IsLowered layout mark box l.depth s parallel.roles l.lowered
  pub body : IsBodyCode layout mark l.depth s l.lowered.body
  pub code : AreLocals layout mark (declared_in s) → Performs layout mark (run s) l.code
