use Rattle.std.proofs.Common.{◌≡◌, ◌-◌, vec_len}
use Rattle.flow_definite.specs.Judged.{known_of}
use Rattle.flow_definite.proofs.known.reach.Given as goal

-- the new slots are known as those behind the last
abbrev pub invariant-loop-slots : goal.invariant-loop-slots
invariant-loop-slots l = known_of (l.slots.items, l.others) ≡ known_of (l.fn.slots.items, l.others)

abbrev pub decreases-loop-slots : goal.decreases-loop-slots
decreases-loop-slots l = l.count - vec_len l.slots
