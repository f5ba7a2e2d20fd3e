-- The parallel regions of a text, by what the lines of their loops say. (OpenMP 5.2, 4.4.4, 10.1, 11.5, 15.9.6 and 17)
use Rattle.std.specs.Prelude.{ℕ, ℤ, Bool, ◌≡◌, if◌then◌else◌, List, [], ◌∷◌, ◌++◌, map, flat_map, Option, Some, None, option_map, string_bytes}
use Rattle.std.specs.Global.{Vec}
use Rattle.semantics.specs.Tree.{Name, Stmt, Assign, Update, If, IfElse, For, Block, Print, Items, no_items, mark, local, stmt, Kernel}
use Rattle.semantics.specs.Loops.Operator.{ReduceOp}
use Rattle.semantics.specs.Loops.Nest.{nest_of}
use Rattle.semantics.specs.Directives.Directive.{Clause, Directive, ParallelFor, Parallel, Worksharing}
use Rattle.semantics.specs.Directives.Clauses.{depth_of, doacross_of, reduction_of, is_scan}
use Rattle.semantics.specs.Directives.Regions.{offsets_of}
use Rattle.ktree.specs.DirectiveView.{operator_of, name_of, directive_of}
use Rattle.ktree.specs.declared.place.Place.{Place}
use Rattle.pragma.specs.Clauses.{Said, said_by}
use Rattle.pragma.specs.Views.{said_of}
use Rattle.pragma_attach.specs.Standing.{directive_on}
use Rattle.pragma_region.specs.declared.listing.Opened.{Opened}
use Rattle.pragma_region.specs.declared.listing.Opened.TheVariants as opened
use Rattle.pragma_region.specs.declared.listing.NamedReduction.{NamedReduction}
use Rattle.pragma_region.specs.declared.listing.RegionLoop.{RegionLoop}
use Rattle.pragma_region.specs.declared.listing.RegionPart.{RegionPart}

-- what the line of a loop says of its iterations; its reductions in the order of its clauses, each by its name and its operator (OpenMP 5.2, 5.5.8); whether it is a scan's (5.6); of how many loops a doacross nest is, if it is one (4.4.4); and the offsets of its sinks, in the order of the text (15.9.6)
pub record LoopSaid : Type 0 where
  pub said : Said
  pub reductions : List (Name × ReduceOp)
  pub scan : Bool
  pub doacross : Option ℕ
  pub sinks : List (List ℤ)

-- what the innermost of so many loops runs
abbrev pub body_of : ℕ → Stmt → Option Stmt
body_of n s = option_map (λ nest. nest.1) (nest_of n s)

-- the sinks among the items of a body
abbrev pub sinks_among : List ℕ → Items → List (List ℤ)
sinks_among text no_items = []
sinks_among text (mark n rest) = offsets_of (directive_on text n) ++ sinks_among text rest
sinks_among text (local x name start rest) = sinks_among text rest
sinks_among text (stmt s rest) = sinks_among text rest

-- of a body that is a block
abbrev pub sinks_of : List ℕ → Option Stmt → List (List ℤ)
sinks_of text (Some (Block items)) = sinks_among text items
sinks_of text _ = []

-- a loop that says this, with these clauses and this statement behind them
abbrev pub loop_with : List ℕ → Said → List (Clause Name) → Stmt → LoopSaid
loop_with text s cs behind =
    record {
      said = s;
      reductions = flat_map reduction_of cs;
      scan = is_scan cs;
      doacross = doacross_of cs;
      sinks = sinks_of text (body_of (depth_of cs) behind);
    }

-- one loop, if its clauses are known
abbrev pub one_loop : List ℕ → Option Said → List (Clause Name) → Stmt → List LoopSaid
one_loop text None cs behind = []
one_loop text (Some s) cs behind = loop_with text s cs behind ∷ []

abbrev pub line_loop : List ℕ → List (Clause Name) → Stmt → List LoopSaid
line_loop text cs behind = one_loop text (said_by cs) cs behind

-- the loop of a directive, where it is one's
abbrev pub directive_loop : List ℕ → Directive Name → Stmt → List LoopSaid
directive_loop text (ParallelFor cs) behind = line_loop text cs behind
directive_loop text (Worksharing cs) behind = line_loop text cs behind
directive_loop text _ behind = []

-- of a directive, if there is one
abbrev pub loop_there : List ℕ → Option (Directive Name) → Stmt → List LoopSaid
loop_there text None behind = []
loop_there text (Some d) behind = directive_loop text d behind

-- the loop behind a line in a `parallel` block
abbrev pub shared_line : List ℕ → Option (Directive Name) → Stmt → List LoopSaid
shared_line text (Some (Worksharing cs)) behind = line_loop text cs behind
shared_line text _ behind = []

-- of the line before, if one stands there
abbrev pub shared_behind : List ℕ → Option ℕ → Stmt → List LoopSaid
shared_behind text None behind = []
shared_behind text (Some n) behind = shared_line text (directive_on text n) behind

-- the loops of a `parallel` block, each behind its `for` directive
abbrev pub shared_among : List ℕ → Option ℕ → Items → List LoopSaid
shared_among text before no_items = []
shared_among text before (mark n rest) = shared_among text (Some n) rest
shared_among text before (local x name start rest) = shared_among text None rest
shared_among text before (stmt s rest) = shared_behind text before s ++ shared_among text None rest

-- of a block alone
abbrev pub shared_in : List ℕ → Stmt → List LoopSaid
shared_in text (Block items) = shared_among text None items
shared_in text _ = []

-- a region, or those that stand in a statement without such a directive
abbrev pub region_line : List ℕ → Option (Directive Name) → Stmt → List LoopSaid → List (List LoopSaid) → List (List LoopSaid)
region_line text (Some (ParallelFor cs)) s shared inside = line_loop text cs s ∷ []
region_line text (Some (Parallel cs)) s shared inside = shared ∷ []
region_line text _ s shared inside = inside

-- behind the line before, if one stands there
abbrev pub region_behind : List ℕ → Option ℕ → Stmt → List (List LoopSaid) → List (List LoopSaid)
region_behind text None s inside = inside
region_behind text (Some n) s inside = region_line text (directive_on text n) s (shared_in text s) inside

abbrev mutual
  pub regions_in : List ℕ → Stmt → List (List LoopSaid)
  regions_in text (Assign x is e) = []
  regions_in text (Update x is op e) = []
  regions_in text (If c a) = regions_in text a
  regions_in text (IfElse c a b) = regions_in text a ++ regions_in text b
  regions_in text (For x name start test step body) = regions_in text body
  regions_in text (Block items) = regions_among text None items
  regions_in text (Print parts) = []

  -- before: the number of the line before
  pub regions_among : List ℕ → Option ℕ → Items → List (List LoopSaid)
  regions_among text before no_items = []
  regions_among text before (mark n rest) = regions_among text (Some n) rest
  regions_among text before (local x name start rest) = regions_among text None rest
  regions_among text before (stmt s rest) = region_behind text before s (regions_in text s) ++ regions_among text None rest

-- those of a kernel, each by its loops
abbrev pub regions_of : List ℕ → Kernel → List (List LoopSaid)
regions_of text k = regions_among text None k.body

-- regions as a list of their parts: a begin, and the loops
abbrev pub region_parts : List LoopSaid → List (Option LoopSaid)
region_parts loops = None ∷ map Some loops

abbrev pub parts_of : List (List LoopSaid) → List (Option LoopSaid)
parts_of regions = flat_map region_parts regions

-- a reduction variable that is kept
abbrev pub reduction_named : NamedReduction → Name × ReduceOp
reduction_named r = (string_bytes r.name, operator_of r.operator)

-- the offsets of a sink that are kept
abbrev pub sink_kept : Vec ℤ → List ℤ
sink_kept s = s.items

-- what a loop that is kept says
abbrev pub loop_said : RegionLoop → LoopSaid
loop_said l = record { said = said_of l.said; reductions = map reduction_named l.reductions.items; scan = l.scan; doacross = l.doacross; sinks = map sink_kept l.sinks.items }

-- what a part says
abbrev pub part_said : RegionPart → Option LoopSaid
part_said p = option_map loop_said p.said

-- these parts stand behind those that were there
abbrev pub AddsParts : List (Option LoopSaid) → List RegionPart → List RegionPart → Type 0
AddsParts added before after = map part_said after ≡ map part_said before ++ added

-- the number of a line
abbrev pub line_of : Option Place → Option ℕ
line_of before = option_map (λ (p : Place). p.line) before

-- an item of a `parallel` block adds its loop, whatever follows; next: the line behind which that stands
abbrev pub AddsShared : List ℕ → Option Place → (Items → Items) → Option Place → List RegionPart → List RegionPart → Type 0
AddsShared text line item next before after =
    (rest : Items) → map part_said after ++ map Some (shared_among text (line_of next) rest) ≡ map part_said before ++ map Some (shared_among text (line_of line) (item rest))

-- an item of any other block adds its regions
abbrev pub AddsRegions : List ℕ → Option Place → (Items → Items) → Option Place → List RegionPart → List RegionPart → Type 0
AddsRegions text line item next before after =
    (rest : Items) → map part_said after ++ parts_of (regions_among text (line_of next) rest) ≡ map part_said before ++ parts_of (regions_among text (line_of line) (item rest))

-- the regions behind a line by what it opens
abbrev pub opens : List ℕ → Opened → Stmt → List LoopSaid → List (List LoopSaid) → List (List LoopSaid)
opens text (opened.Loop d) s shared inside = directive_loop text (directive_of name_of d.now) s ∷ []
opens text opened.Region s shared inside = shared ∷ []
opens text opened.Nothing s shared inside = inside

-- a line opens a region with a statement, which is added, or the regions inside the statement are still to be added
abbrev pub AddsOpened : List ℕ → Option ℕ → Stmt → Bool → List RegionPart → List RegionPart → Type 0
AddsOpened text line s is before after =
    (inside : List (List LoopSaid)) → map part_said after ++ parts_of (if is then [] else inside) ≡ map part_said before ++ parts_of (region_behind text line s inside)
