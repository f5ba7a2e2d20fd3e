use Rattle.std.proofs.Common.{◌≡◌, ◌+◌, ◌-◌, vec_len}
use Rattle.seqrun_value.specs.Standing.{locals_of}
use Rattle.seqrun_value.proofs.frame.set_behind.Given as goal

-- the new slots stand for no local
abbrev pub invariant-loop-slots : goal.invariant-loop-slots
invariant-loop-slots l = locals_of l.slots.items ≡ locals_of l.initial.slots.items

abbrev pub decreases-loop-slots : goal.decreases-loop-slots
decreases-loop-slots l = l.index + 1 - vec_len l.slots
