use Rattle.std.proofs.Common.{ap, ◌∙◌, arith}
use Rattle.store.specs.Kept.{state_of}
use Rattle.seqrun_value.specs.Standing.{locals_of}
use Rattle.seqrun_value.proofs.FrameLemmas.{locals_pushed, state_set, state_with}
use Rattle.seqrun_value.proofs.frame.set_behind.Goals as goal

pub loop-slots-preserved : goal.loop-slots-preserved
loop-slots-preserved c = rw c.in_ok-push.ensures.items (locals_pushed _ ∙ c.loop-slots.invariant)

pub returns-clause-ok : goal.returns-clause-ok
returns-clause-ok c = λ ks.
    ap (λ xs. state_with (state_of ks).cells (locals_of xs)) c.set_slot.ensures
    ∙ state_set (state_of ks).cells c.loop-slots.slots.items c.args.slots.now.items c.args.index c.args.slot (omega arith) c.loop-slots.invariant
