use Rattle.std.proofs.Common.{ℕ, ◌≡◌, ◌≤◌, ◌++◌, Option, length, flat_map, vec_len, vec_capacity}
use Rattle.semantics.specs.Meaning.Places.{below}
use Rattle.team_worker.specs.declared.way.Way.TheVariants.{Dealt}
use Rattle.team_worker.specs.Ends.{IsAccount}
use Rattle.team_worker.specs.Dealt.{own_numbers}
use Rattle.team_log.specs.Logged.{joined}
use Rattle.team_worker.specs.Places.{Aim, AreFor}
use Rattle.team_worker.proofs.dealt.gather.Given as goal

abbrev pub invariant-loop-place : goal.invariant-loop-place
invariant-loop-place l =
    record {
      whole : l.yielded ++ l.place-iterator.rest.items ≡ l.fn.places.items;
      room : vec_len l.fn.places ≤ vec_capacity l.logs;
      many : vec_len l.logs ≡ length l.yielded;
      dealt : (aim : Aim) (size : Option ℕ) → aim.way ≡ Dealt size → AreFor aim l.fn.places.items
          → IsAccount aim.lowered aim.registers aim.store aim.pass aim.chunks (flat_map (own_numbers size (length aim.chunks) aim.workers) (below (length l.yielded))) (joined l.logs.items);
    }
