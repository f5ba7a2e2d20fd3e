-- What is told of variables with a role behind a chunk. (OpenMP 5.2, 5.4.5 and 5.5.2)
use Rattle.std.specs.Prelude.{Bool, ◌≡◌, [], map, if◌then◌else◌}
use Rattle.reduce.specs.Partial.{partial_of}
use Rattle.lower_machine.specs.Machine.{Machine}
use Rattle.lower.specs.declared.roles.LoweredRoles.{LoweredRoles}
use Rattle.overlay.specs.declared.beginning.Start.{Start}
use Rattle.overlay.specs.declared.ending.Told.{Told}
use Rattle.overlay.specs.Spots.{held_at, partial_at}

-- by machines before the loop and behind the chunk: a partial of each reduction variable, and each last value where the chunk has the last iteration
pub record IsTold (roles : LoweredRoles) (start : Start) (has_last : Bool) (before behind : Machine) (told : Told) : Type 0 where
  pub partials : map partial_of told.partials.items ≡ map (partial_at start before behind) roles.reductions.items
  pub lasts : told.lasts.items ≡ if has_last then map (λ at. held_at at behind) roles.lasts.items else []
