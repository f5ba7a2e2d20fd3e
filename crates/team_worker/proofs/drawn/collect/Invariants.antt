use Rattle.std.proofs.Common.{◌≡◌, ◌≤◌, ◌++◌, length, vec_len, vec_capacity}
use Rattle.std.specs.Global.{Box}
use Rattle.team_worker.specs.declared.way.Draw.{Draw}
use Rattle.team_worker.specs.declared.way.Way.TheVariants.{Drawn}
use Rattle.team_worker.specs.Ends.{AreTaken}
use Rattle.team_log.specs.Logged.{joined}
use Rattle.team_worker.specs.Places.{Aim, AreFor}
use Rattle.team_worker.proofs.drawn.collect.Given as goal

abbrev pub invariant-loop-place : goal.invariant-loop-place
invariant-loop-place l =
    record {
      whole : l.yielded ++ l.place-iterator.rest.items ≡ l.fn.places.items;
      seats : vec_len l.fn.places ≤ vec_capacity l.seats;
      logs : vec_len l.fn.places ≤ vec_capacity l.logs;
      many : vec_len l.logs ≡ length l.yielded;
      taken : (aim : Aim) (draw : Box Draw) → aim.way ≡ Drawn draw → AreFor aim l.fn.places.items
          → AreTaken aim.lowered aim.registers aim.store aim.pass aim.chunks draw.value.drawing l.seats.items (joined l.logs.items);
      len : length l.seats.items ≡ length l.yielded;
    }
