-- What chunks tell of a scan's variable, and where its chunks start by that. (OpenMP 5.2, 5.6)
use Rattle.std.specs.Prelude.{ℕ, ◌≡◌, List, [], ◌∷◌, map, take, drop, replicate, slice_set, Option, None}
use Rattle.semantics.specs.Loops.Joined.{value_at}
use Rattle.ktree.specs.DirectiveView.{operator_of}
use Rattle.reduce.specs.declared.partial.Partial.{Partial}
use Rattle.reduce.specs.Partial.{partial_of}
use Rattle.lower_machine.specs.Machine.{Machine}
use Rattle.lower.specs.declared.roles.LoweredReduction.{LoweredReduction}
use Rattle.inscan.specs.InFront.{AreStarts}
use Rattle.overlay.specs.Spots.{held_at}
use Rattle.team_log.specs.declared.log.EndedChunk.{EndedChunk}
use Rattle.team_log.specs.Logged.{Leaving}
use Rattle.team_log.specs.Printed.{entered_by}

-- what a chunk tells of a scan's variable, the only one that is reduced
abbrev pub told_of_scan : Leaving → Option ℕ
told_of_scan c = value_at 0 c.partials

-- what so many chunks tell of it, by their numbers
abbrev pub partials_in_order : ℕ → List Leaving → List (Option ℕ)
partials_in_order count cs = entered_by told_of_scan cs (replicate count None)

-- the same of partials that come one behind another
abbrev pub partials_from : List EndedChunk → List Partial → List (Option ℕ) → List (Option ℕ)
partials_from [] ps table = table
partials_from (e ∷ es) ps table = partials_from es (drop e.partials ps) (slice_set table e.number.0 (value_at 0 (map partial_of (take e.partials ps))))

-- starts by what the first of these variables holds in a machine before the loop
abbrev pub StartFrom : List LoweredReduction → Machine → List (Option ℕ) → List ℕ → Type 0
StartFrom [] m partials starts = starts ≡ []
StartFrom (r ∷ rs) m partials starts = AreStarts (operator_of r.operator) (held_at r.spot m) partials starts
