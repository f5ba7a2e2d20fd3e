-- How far the sinks of doacross nests lie before the iterations that name them, by the nests' lines. (OpenMP 5.2, 15.9.6)
use Rattle.std.specs.Prelude.{ℕ, ℤ, ◌==◌, if◌then◌else◌, List, [], ◌∷◌, map}
use Rattle.std.specs.Global.{Vec}
use Rattle.semantics.specs.Loops.Order.{Distance}
use Rattle.flow_doacross.specs.Listed.{NestPart}
use Rattle.flow_doacross.specs.Views.{nest_part}
use Rattle.flow_doacross.specs.declared.listing.DoacrossLoop.{DoacrossLoop}

-- the distances of the sinks of the loop behind each directive line: none where this is no doacross nest
abbrev pub LineSinks : Type 0
LineSinks = ℕ → List Distance

-- no loop is one
abbrev pub no_sinks : LineSinks
no_sinks line = []

-- those of nests that are listed: of each line the first that is there
abbrev pub sinks_at : List NestPart → LineSinks
sinks_at [] line = []
sinks_at (p ∷ ps) line = if p.line == line then p.distances else sinks_at ps line

-- as the code holds distances
abbrev pub distances_of : List (Vec ℤ) → List Distance
distances_of sinks = map (λ d. d.items) sinks

-- and nests
abbrev pub line_sinks : List DoacrossLoop → LineSinks
line_sinks nests = sinks_at (map nest_part nests)
