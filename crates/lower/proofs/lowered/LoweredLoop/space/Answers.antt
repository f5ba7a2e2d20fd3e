use Rattle.std.proofs.Common.{◌∙◌, ap}
use Rattle.lower.specs.Lowered.{values_in}
use Rattle.lower.proofs.Spaces.{space_of}
use Rattle.lower.proofs.lowered.LoweredLoop.space.Goals as goal

pub returns-in-Some-clause-iterations : goal.returns-in-Some-clause-iterations
returns-in-Some-clause-iterations c =
    let values = c.as_slice-2.ensures.value ∙ c.in_ok-values.ensures ∙ ap (λ vs. values_in vs c.args.registers.now) c.deref.ensures.value in
    space_of c.args.self.now c.args.registers.now c.in-Some.space
    (rw (c.as_slice.ensures.value, values) at c.in-Some.ensures.iterations)
