-- What the lines inside a loop say of it. (OpenMP 5.2, 5.6 and 15.9.6)
use Rattle.std.specs.Prelude.{ℕ, List, [], Option, Some, None}
use Rattle.semantics.specs.Loops.Order.{Distance}
use Rattle.flow.specs.Phases.{PhasesSaid, LinePhases}
use Rattle.deptest_verdict.specs.Sinks.{LineSinks}

-- its phases, where it is the loop of a scan (OpenMP 5.2, 5.6), and how far its sinks lie before the iteration that names them, where it is a doacross nest (OpenMP 5.2, 15.9.6)
pub record SaidInside : Type 0 where
  pub phases : Option PhasesSaid
  pub sinks : Option (List Distance)

-- so of the loop behind each line
abbrev pub LinesInside : Type 0
LinesInside = ℕ → SaidInside

-- the phases of scans
abbrev pub phases_in : LinesInside → LinePhases
phases_in P line = (P line).phases

-- distances that may be said: none where they are not
abbrev pub listed : Option (List Distance) → List Distance
listed None = []
listed (Some sinks) = sinks

-- the sinks of doacross nests, none of another loop
abbrev pub sinks_in : LinesInside → LineSinks
sinks_in P line = listed (P line).sinks
