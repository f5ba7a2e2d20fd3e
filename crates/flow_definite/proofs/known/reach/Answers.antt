use Rattle.std.proofs.Common.{◌∙◌}
use Rattle.flow_definite.proofs.KnownLemmas.{pushed}
use Rattle.flow_definite.proofs.known.reach.Goals as goal

pub loop-slots-preserved : goal.loop-slots-preserved
loop-slots-preserved c = rw c.in_ok-push.ensures.items (pushed c.args.others _ ∙ c.loop-slots.invariant)
