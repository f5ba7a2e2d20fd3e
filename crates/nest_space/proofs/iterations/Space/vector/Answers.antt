use Rattle.std.specs.Prelude.{◌<◌}
use Rattle.std.proofs.Common.{sym, ap, ◌∙◌, subst}
use Rattle.nest_space.specs.Space.{product}
use Rattle.nest_space.proofs.Places.{length-vectors}
use Rattle.nest_space.proofs.iterations.Space.vector.Goals as goal

pub place-requires-clause-number : goal.place-requires-clause-number
place-requires-clause-number c =
    subst (λ n. c.args.number < n) (length-vectors c.args.self.now ∙ ap product (sym (c.as_slice.ensures ∙ c.self.view_is))) c.requires.number
