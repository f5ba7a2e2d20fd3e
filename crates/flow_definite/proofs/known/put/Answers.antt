use Rattle.std.proofs.Common.{ap, ◌∙◌, arith}
use Rattle.semantics.specs.Meaning.Definite.{known_with}
use Rattle.flow_definite.proofs.KnownLemmas.{set}
use Rattle.flow_definite.proofs.known.put.Goals as goal

pub returns : goal.returns
returns c =
    set c.args.others c.reach.new.slots.items c.args.variable.0 c.args.known (omega (arith, c.in_ok-reach.ensures.reached))
    ∙ ap (λ k. known_with k c.args.variable.0 c.args.known) c.in_ok-reach.ensures.known
