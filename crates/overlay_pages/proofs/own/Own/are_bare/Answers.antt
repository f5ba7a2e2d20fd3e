use Rattle.std.proofs.Common.{ℕ, List, Option, ◌+◌, ap, sym, ◌∙◌}
use Rattle.overlay_pages.specs.Over.{writes_in}
use Rattle.overlay_pages.specs.Table.{table_of, slots}
use Rattle.overlay_pages.proofs.Tables.{slots_say}
use Rattle.overlay_pages.proofs.Near.{read_apart}
use Rattle.overlay_pages.proofs.own.Own.are_bare.Goals as goal

pub returns : goal.returns
returns c = λ bare k lt.
    let t = table_of c.self.inside.pages in
    let place = c.args.first + k in
    ap (λ (l : List (Option ℕ)). writes_in l place) (sym c.self.view_is)
    ∙ read_apart (slots t) c.self.inside.near c.self.inside.value place (c.lies_apart.ensures.0 c.if-not-lies_apart.false k lt)
    ∙ slots_say t c.self.invariant.sound place
    ∙ c.are_bare.ensures.bare bare k lt
