use Rattle.std.proofs.Common.{◌∙◌, ap, [], ◌∷◌}
use Rattle.lower_op.specs.Steps.{steps}
use Rattle.lower_op.proofs.Stepping.{steps_append}
use Rattle.team_in_place.proofs.nesting.step_in.Goals as goal

pub returns : goal.returns
returns c = λ m.
    let back = c.in_ok-last.back.now in
    ap (λ l. steps l m) c.in_ok-last.ensures.cases.0 ∙ steps_append back (c.in_ok-last.last.now ∷ []) m ∙ c.in_ok-by.ensures (steps back m)
