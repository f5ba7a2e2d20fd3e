-- What the code's values stand for.
use Rattle.std.specs.Prelude.{ℕ, Bool, not, ◌≡◌, ◌==◌, ◌||◌, if◌then◌else◌, List, [], ◌∷◌, ◌++◌, map, Option, Some, None}
use Rattle.std.specs.HashSet.{HashSet}
use Rattle.semantics.specs.Tree.{Variable, Items}
use Rattle.semantics.specs.Loops.Operator.{ReduceOp}
use Rattle.ktree.specs.View.{items_of}
use Rattle.ktree.specs.DirectiveView.{name_of}
use Rattle.ktree.specs.declared.place.Place.{Place}
use Rattle.ktree.specs.declared.statement.Item.{Item}
use Rattle.nest_lines.specs.Lines.{next_line}
use Rattle.pragma_mention.specs.Sets.{holds}
use Rattle.pragma_named.specs.Known.{Lines}
use Rattle.pragma_region.specs.Listed.{line_of}
use Rattle.flow.specs.Phases.{LinePhases}
use Rattle.flow_reduction.specs.Reduced.{reduction_of}
use Rattle.flow_reduction.specs.declared.reduction.Reduction.{Reduction}
use Rattle.flow_scan.specs.Lines.{ScanSaid}
use Rattle.flow_scan.specs.Parts as meant
use Rattle.flow_scan.specs.Scans.{ScanPart, parts_among}
use Rattle.flow_scan.specs.declared.fault.ScanFault.{ScanFault}
use Rattle.flow_scan.specs.declared.fault.ScanFault.TheVariants.{Scan, Reduced}
use Rattle.flow_scan.specs.declared.clauses.ScanLine.{ScanLine}
use Rattle.flow_scan.specs.declared.cutting.Parts.{Parts}
use Rattle.flow_scan.specs.declared.listing.ScanLoop.{ScanLoop}

-- the number of what is told: K17 of a scan, K16 of its variable in the input phase
abbrev pub number_told : ScanFault → ℕ
number_told (Scan place) = 17
number_told (Reduced place) = 16

-- where it is told
abbrev pub place_told : ScanFault → Place
place_told (Scan place) = place
place_told (Reduced place) = place

-- what a `scan` line says
abbrev pub line_said : ScanLine → ScanSaid
line_said l = record { inclusive = l.inclusive; name = name_of l.name.now }

-- a body that is cut
abbrev pub parts_cut : Parts → meant.Parts
parts_cut p = record { said = line_said p.said; front = items_of p.front.now; back = items_of p.back.now }

-- the reduction of a scan, as a list
abbrev pub reduced_there : Option Reduction → List (Variable × ReduceOp)
reduced_there None = []
reduced_there (Some r) = reduction_of r ∷ []

-- a variable that is none of a set, or this one
abbrev pub is_spared : {S : Type 0} → HashSet ℕ S → Variable → Variable → Bool
is_spared set x y = y == x || not (holds set y)

-- the loop of a scan, as it is listed
abbrev pub scan_part : ScanLoop → ScanPart
scan_part l = record { line = l.line.line; inclusive = l.inclusive; front = l.front }

-- these stand behind those that were there
abbrev pub AddsScans : List ScanPart → List ScanLoop → List ScanLoop → Type 0
AddsScans added before after = map scan_part after ≡ map scan_part before ++ added

-- an item adds its own, whatever follows
abbrev pub AddsOfItem : List ℕ → Lines → Option Place → Item → (Items → Items) → List ScanLoop → List ScanLoop → Type 0
AddsOfItem text lines line item front before after =
    (rest : Items) → map scan_part after ++ parts_among text lines (next_line text (line_of line) item) rest ≡ map scan_part before ++ parts_among text lines (line_of line) (front rest)

-- whether its input phase comes first, and how many items its first phase has, of the first of some loops of scans behind the line of this number
abbrev pub phases_at : List ScanPart → LinePhases
phases_at [] line = None
phases_at (p ∷ ps) line = if p.line == line then Some (p.inclusive, p.front) else phases_at ps line
