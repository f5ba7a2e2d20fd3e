use Rattle.std.proofs.Common.{◌≡◌, ◌≤◌, vec_len, vec_capacity}
use Rattle.team_worker.specs.Places.{AreFor, aim_of}
use Rattle.team_worker.proofs.places.places_for.Given as goal

abbrev pub invariant-loop-number : goal.invariant-loop-number
invariant-loop-number l =
    record {
      len : vec_len l.places ≡ l.number;
      room : l.count ≤ vec_capacity l.places;
      made : AreFor (aim_of l.lowered l.grounds l.store l.way l.workers) l.places.items;
    }
