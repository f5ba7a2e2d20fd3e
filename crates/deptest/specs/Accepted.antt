-- Kernels whose parallel loops are shown to be independent or ordered by their sinks, and what is kept of an accepted text. (OpenMP 5.2, 1.4.1, 11.5 and 15.9.6; C11 5.1.2.4)
use Rattle.std.specs.Prelude.{ℕ, ◌≡◌, true, List, [], map, length, Some, None}
use Rattle.semantics.specs.Tree.{Kernel, strip}
use Rattle.semantics.specs.Source.Grammar.{ReadsText}
use Rattle.law_lines.specs.Without.{IsTreeOf}
use Rattle.semantics.specs.Meaning.Definite.{IsDefinite}
use Rattle.semantics.specs.Directives.Annotated.{Directives, clauses_at}
use Rattle.semantics.specs.Directives.Naming.{IsAttached}
use Rattle.ktree.specs.View.{kernel_of}
use Rattle.ktree.specs.declared.statement.Kernel as code
use Rattle.pragma.specs.Plain.{IsDirected}
use Rattle.nest.specs.Nests.{IsInRange}
use Rattle.nest.specs.Perfect.{AreRightNests}
use Rattle.pragma_named.specs.Known.{Lines, known_clauses}
use Rattle.pragma_region.specs.Regions.{alone}
use Rattle.pragma_region.specs.Counted.{counted_in}
use Rattle.pragma_region.specs.NotKnown.{unknown_among}
use Rattle.pragma_region.specs.Listed.{regions_of, parts_of, part_said}
use Rattle.pragma_region.specs.declared.listing.RegionPart.{RegionPart}
use Rattle.flow.specs.Roles.{LineData, line_data, privates_by, ItemsHaveBy, ItemsKeepRoles}
use Rattle.flow_clauses.specs.Fitting.{fit_clauses}
use Rattle.flow_doacross.specs.Nests.{doacross_rightly}
use Rattle.flow_doacross.specs.Listed.{NestPart, nest_at, doacross_of}
use Rattle.flow_doacross.specs.Views.{nest_part}
use Rattle.flow_doacross.specs.declared.listing.DoacrossLoop.{DoacrossLoop}
use Rattle.flow_ordered.specs.Ordered.{prints_in_order}
use Rattle.flow_scan.specs.Scans.{ScanPart, scans_rightly, scans_of}
use Rattle.flow_scan.specs.Views.{scan_part, phases_at}
use Rattle.flow_scan.specs.declared.listing.ScanLoop.{ScanLoop}
use Rattle.law_roles.specs.Sharing.{are_different}
use Rattle.flow.specs.Parallel.{AreParallelLoops}
use Rattle.flow.specs.declared.environment.ParallelLoop.{ParallelLoop}
use Rattle.law_independence.specs.Said.{LinesInside}
use Rattle.law_independence.specs.OrderLaws.{SharesBy}
use Rattle.law_doacross.specs.Covering.{OrderedBy}

-- a text, and its tree with the directive lines
pub record Program : Type 0 where
  pub text : List ℕ
  pub kernel : code.Kernel

-- the tree without its directive lines
abbrev pub tree_of : Program → Kernel
tree_of p = strip (kernel_of p.kernel)

-- the clauses of each line over variables, none where it has none
abbrev pub clauses_said : Kernel → Directives → Lines
clauses_said k ds line = known_clauses (Some (clauses_at k ds line))

-- those that count for the loop behind each line: of its own directive, and of the `parallel` round it (OpenMP 5.2, 5.1.1)
abbrev pub clauses_counted : List ℕ → Kernel → Directives → Lines
clauses_counted text k ds = counted_in text k (clauses_said k ds)

-- what they say of the scalars that the loop assigns (OpenMP 5.2, 5.4.3, 5.4.5 and 5.5.8)
abbrev pub data_counted : List ℕ → Kernel → Directives → LineData
data_counted text k ds line = line_data (length k.variables) (clauses_counted text k ds line)

-- the loops of scans of a kernel, by the clauses that count for each line (OpenMP 5.2, 5.6)
abbrev pub scans_counted : List ℕ → Kernel → Directives → List ScanPart
scans_counted text k ds = scans_of text (clauses_counted text k ds) k

-- the doacross nests of a kernel, by the same clauses (OpenMP 5.2, 15.9.6)
abbrev pub nests_counted : List ℕ → Kernel → Directives → List NestPart
nests_counted text k ds = doacross_of text (clauses_counted text k ds) k

-- what the lines inside the loop behind each line say of it
abbrev pub inside_counted : List ℕ → Kernel → Directives → LinesInside
inside_counted text k ds line = record { phases = phases_at (scans_counted text k ds) line; sinks = nest_at (nests_counted text k ds) line }

-- what is known before the dependence test: the tree is one of the text, whose directives are attached to the whole of it, and none of these has a clause that is not run; its loops are canonical and never wrap, no subscript leaves its array, each directive line left in it is that of a loop directly behind it that holds no other, with a right nest, that writes no scalar but its own and those with a role, and keeps their roles, and no local is read before it is assigned; the roles are those of the clauses that count for a loop, and these name what they may; parallel loops print in ordered regions alone, scans have their two phases, and doacross nests their sinks and their source
pub record HasPassed (text : List ℕ) (k : Kernel) : Type 0 where
  pub reads : IsTreeOf text k
  pub directives : Directives
  pub attached : IsAttached text reads.whole directives
  pub known : unknown_among text reads.whole.body ≡ None
  pub in_range : IsInRange k
  pub directed : IsDirected text k
  pub nested : AreRightNests text k
  pub definite : IsDefinite (privates_by (data_counted text reads.whole directives)) k
  pub roles : ItemsKeepRoles text (data_counted text reads.whole directives) [] k.body
  pub fit : fit_clauses (clauses_counted text reads.whole directives) k ≡ true
  pub ordered : prints_in_order text reads.whole ≡ true
  pub dissolved : k ≡ alone text reads.whole
  pub scans : scans_rightly text (clauses_counted text reads.whole directives) reads.whole ≡ true
  pub numbered : are_different (map (λ (p : ScanPart). p.line) (scans_counted text reads.whole directives)) ≡ true
  pub nests : doacross_rightly text (clauses_counted text reads.whole directives) reads.whole ≡ true

-- the roles of a kernel that has passed
abbrev pub data_passed : {text : List ℕ} {k : Kernel} → HasPassed text k → LineData
data_passed {text} passed = data_counted text passed.reads.whole passed.directives

-- and what the lines inside its loops say
abbrev pub inside_passed : {text : List ℕ} {k : Kernel} → HasPassed text k → LinesInside
inside_passed {text} passed = inside_counted text passed.reads.whole passed.directives

-- at each turn of the serial loops round a parallel loop no two of its iterations conflict, and in a doacross nest its sinks put one of two that do before the other; chunks of them, with the roles of what it assigns, leave together what it leaves, without reductions in any order, and in a doacross nest wave by wave
pub record AreOrdered {text : List ℕ} {k : Kernel} (passed : HasPassed text k) : Type 0 where
  pub apart : ItemsHaveBy text (OrderedBy (inside_passed passed)) [] k.body
  pub share : ItemsHaveBy text (SharesBy k.variables (data_passed passed) (inside_passed passed)) [] k.body

-- these are the doacross nests of a kernel that has passed
abbrev pub AreNestsPassed : {text : List ℕ} {k : Kernel} → HasPassed text k → List DoacrossLoop → Type 0
AreNestsPassed {text} passed nests = map nest_part nests ≡ nests_counted text passed.reads.whole passed.directives

-- a kernel has passed, and these are its doacross nests
pub record HasNests (text : List ℕ) (k : Kernel) (nests : List DoacrossLoop) : Type 0 where
  pub passed : HasPassed text k
  pub nests_are : AreNestsPassed passed nests

-- its loops are so wherever these are its doacross nests
abbrev pub AreOrderedBy : List ℕ → Kernel → List DoacrossLoop → Type 0
AreOrderedBy text k nests = (passed : HasPassed text k) → AreNestsPassed passed nests → AreOrdered passed

-- what holds of each accepted text
pub record IsAccepted (p : Program) : Type 0 where
  pub passed : HasPassed p.text (kernel_of p.kernel)
  pub ordered : AreOrdered passed

-- the parts of a text's parallel regions, where the tree is that of the text with these regions dissolved, and no directive of it has a clause that is not run
pub record AreRegions (text : List ℕ) (k : Kernel) (parts : List RegionPart) : Type 0 where
  pub whole : Kernel
  pub reads : ReadsText text whole
  pub dissolved : k ≡ alone text whole
  pub known : unknown_among text whole.body ≡ None
  pub are : map part_said parts ≡ parts_of (regions_of text whole)

-- a kernel has passed, and these are its parallel loops, those of its scans and its doacross nests, in the order of the text
pub record HasLoops (text : List ℕ) (k : Kernel) (loops : List ParallelLoop) (scans : List ScanLoop) (nests : List DoacrossLoop) : Type 0 where
  pub passed : HasPassed text k
  pub listed : AreParallelLoops text (data_passed passed) k loops
  pub scans_are : map scan_part scans ≡ scans_counted text passed.reads.whole passed.directives
  pub nests_are : AreNestsPassed passed nests

-- so it is of an accepted text
pub record KeepsLoops (p : Program) (loops : List ParallelLoop) : Type 0 where
  pub accepted : IsAccepted p
  pub listed : AreParallelLoops p.text (data_passed accepted.passed) (kernel_of p.kernel) loops

-- these are the loops of its scans, in the order of the text
abbrev pub AreScansOf : (p : Program) → IsAccepted p → List ScanLoop → Type 0
AreScansOf p accepted scans = map scan_part scans ≡ scans_counted p.text accepted.passed.reads.whole accepted.passed.directives

-- and what is kept of it: its parallel loops, those of its scans, its doacross nests and the parts of its parallel regions, in the order of the text
pub record IsKept (p : Program) (loops : List ParallelLoop) (scans : List ScanLoop) (nests : List DoacrossLoop) (parts : List RegionPart) : Type 0 where
  pub keeps : KeepsLoops p loops
  pub scans_are : AreScansOf p keeps.accepted scans
  pub nests_are : AreNestsPassed keeps.accepted.passed nests
  pub regions : AreRegions p.text (kernel_of p.kernel) parts
