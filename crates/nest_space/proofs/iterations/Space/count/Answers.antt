use Rattle.std.proofs.Common.{sym, ap, ◌∙◌, length}
use Rattle.nest_space.specs.Space.{vectors}
use Rattle.nest_space.proofs.Places.{length-vectors}
use Rattle.nest_space.proofs.iterations.Space.count.Goals as goal

pub returns : goal.returns
returns c = c.self.invariant.1 ∙ sym (length-vectors c.self.inside.loops.items) ∙ ap (λ ts. length (vectors ts)) c.self.view_is
