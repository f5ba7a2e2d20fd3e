use Rattle.std.specs.Prelude.{◌<◌}
use Rattle.std.proofs.Common.{sym, ap, ◌∙◌, subst}
use Rattle.nest_space.specs.Space.{product}
use Rattle.nest_space.proofs.Places.{length-vectors}
use Rattle.nest_space.proofs.iterations.Space.row.Goals as goal

pub row_at-requires : goal.row_at-requires
row_at-requires c =
    subst (λ n. c.args.number < n) (length-vectors c.args.self.now ∙ ap product (sym (c.as_slice.ensures ∙ c.self.view_is))) c.requires
