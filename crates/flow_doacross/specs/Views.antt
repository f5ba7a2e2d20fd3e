-- What the code's values stand for.
use Rattle.std.specs.Prelude.{ℕ, ℤ, Bool, true, false, ◌≡◌, cond, if◌then◌else◌, List, ◌∷◌, ◌++◌, map, Option, Some, None}
use Rattle.std.specs.Global.{Vec}
use Rattle.std.specs.List.{list_all, filter_map}
use Rattle.ktree.specs.View.{items_of}
use Rattle.ktree.specs.DirectiveView.{name_of, element_of}
use Rattle.ktree.specs.declared.place.Place.{Place}
use Rattle.ktree.specs.declared.statement.Item.{Item, Directive}
use Rattle.ktree.specs.declared.directive.Written.{Written}
use Rattle.ktree.specs.declared.directive.SinkElement.{SinkElement}
use Rattle.semantics.specs.Tree as tree
use Rattle.semantics.specs.Loops.Order.{Distance}
use Rattle.flow_doacross.specs.Lines.{Elements, sink_on, is_source_line}
use Rattle.flow_doacross.specs.Bodies as meant
use Rattle.flow_doacross.specs.Listed.{is_near, NestPart, parts_among}
use Rattle.flow_doacross.specs.declared.cutting.Front.{Front}
use Rattle.flow_doacross.specs.declared.fault.DoacrossFault.{DoacrossFault}
use Rattle.flow_doacross.specs.declared.fault.DoacrossFault.TheVariants as told
use Rattle.flow_doacross.specs.declared.listing.DoacrossLoop.{DoacrossLoop}
use Rattle.nest_lines.specs.Lines.{next_line}
use Rattle.pragma_named.specs.Known.{Lines}
use Rattle.pragma_region.specs.Listed.{line_of}

-- where it is told
abbrev pub place_told : DoacrossFault → Place
place_told (told.Line place) = place
place_told (told.Nest place) = place
place_told (told.Printed place) = place
place_told (told.Sink place) = place
place_told (told.Name place) = place

-- the elements of a sink, by their names
abbrev pub elements_of : List (SinkElement Written) → Elements
elements_of es = map (element_of name_of) es

-- what is decided, or else what further offsets say
abbrev pub leads : Option Bool → Bool → Bool
leads None further = further
leads (Some b) further = b

-- the elements of an item, where it is the line of a sink
abbrev pub item_sink : List ℕ → Item → Option Elements
item_sink text (Directive place) = sink_on text place.line
item_sink text _ = None

-- whether it is the line of a source
abbrev pub item_source : List ℕ → Item → Bool
item_source text (Directive place) = is_source_line text place.line
item_source text _ = false

-- an item of a nest of d loops with these names, where it is a sink
abbrev pub is_right_sink : ℕ → List tree.Name → Option Elements → Bool
is_right_sink d names None = true
is_right_sink d names (Some es) = meant.is_sink_of d names es

-- those of all sinks among items
abbrev pub sinks_on : List ℕ → List Item → List Elements
sinks_on text items = filter_map (item_sink text) items

-- items that are cut
abbrev pub front_cut : List ℕ → Front → meant.Front
front_cut text f = record { sinks = sinks_on text f.sinks.now; rest = items_of f.rest.now }

-- a distance as the code holds it
abbrev pub distance_kept : Vec ℤ → Distance
distance_kept d = d.items

-- a number of 64 bits
abbrev pub near_number : ℤ → Option ℤ
near_number z = if is_near z then Some z else None

-- a distance of such numbers
abbrev pub near_distance : Distance → Option Distance
near_distance d = if list_all is_near d then Some d else None

-- that of a sink, if it is one, before others
abbrev pub with_near : Option Elements → List Distance → List Distance
with_near None rest = rest
with_near (Some es) rest = cond (list_all is_near (meant.distance_of es)) (meant.distance_of es ∷ rest) rest

-- a nest as it is listed
abbrev pub nest_part : DoacrossLoop → NestPart
nest_part l = record { line = l.line.line; distances = map distance_kept l.distances.items }

-- these stand behind those that were there
abbrev pub AddsNests : List NestPart → List DoacrossLoop → List DoacrossLoop → Type 0
AddsNests added before after = map nest_part after ≡ map nest_part before ++ added

-- an item adds its own, whatever follows
abbrev pub AddsOfItem : List ℕ → Lines → Option Place → Item → (tree.Items → tree.Items) → List DoacrossLoop → List DoacrossLoop → Type 0
AddsOfItem text lines line item front before after =
    (rest : tree.Items) → map nest_part after ++ parts_among text lines (next_line text (line_of line) item) rest ≡ map nest_part before ++ parts_among text lines (line_of line) (front rest)
