use Rattle.std.proofs.Common.{ℕ, List, length, Option, ap, ◌∙◌}
use Rattle.overlay_pages.specs.Table.{table_of}
use Rattle.overlay_pages.proofs.Near.{length_near}
use Rattle.overlay_pages.proofs.own.Own.cells.Goals as goal

pub returns : goal.returns
returns c =
    length_near (table_of c.self.inside.pages) c.self.inside.near c.self.inside.value
    ∙ ap (λ (l : List (Option ℕ)). length l) c.self.view_is
