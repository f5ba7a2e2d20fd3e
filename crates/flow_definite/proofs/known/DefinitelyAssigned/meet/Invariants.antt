use Rattle.std.proofs.Common.{◌≡◌, vec_len}
use Rattle.flow_definite.specs.Judged.{known_of}
use Rattle.flow_definite.proofs.KnownLemmas.{met_below}
use Rattle.flow_definite.proofs.known.DefinitelyAssigned.meet.Given as goal

-- the slots so far are known only where the others are
abbrev pub invariant-loop-i : goal.invariant-loop-i
invariant-loop-i l =
    (known_of (l.slots.items, l.fn.self.1) ≡ met_below (known_of (l.initial.slots.items, l.fn.self.1)) (known_of l.other) l.i)
    × (vec_len l.slots ≡ l.count)
