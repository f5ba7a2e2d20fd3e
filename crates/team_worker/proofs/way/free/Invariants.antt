use Rattle.std.proofs.Common.{◌≡◌, ◌≤◌, ◌++◌, All, length, vec_len, vec_capacity}
use Rattle.draw.specs.Tickets.{fresh}
use Rattle.team_worker.proofs.way.free.Given as goal

abbrev pub invariant-loop-seat : goal.invariant-loop-seat
invariant-loop-seat l =
    record {
      whole : l.yielded ++ l.seat-iterator.rest.items ≡ l.fn.seats.items;
      room : vec_len l.fn.seats ≤ vec_capacity l.free;
      many : vec_len l.free ≡ length l.yielded;
      fresh_all : All (λ seat. seat ≡ fresh l.drawing) l.free.items;
    }
