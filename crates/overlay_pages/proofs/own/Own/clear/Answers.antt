use Rattle.std.proofs.Common.{ℕ, List, length, replicate, Option, None, ap, ◌∙◌}
use Rattle.overlay_pages.specs.Table.{table_of}
use Rattle.overlay_pages.proofs.Near.{set_nowhere, length_near}
use Rattle.overlay_pages.proofs.own.Own.clear.Goals as goal

pub returns : goal.returns
returns c =
    let inside = c.self.inside in
    set_nowhere (table_of c.clear.new.pages) inside.value c.clear.ensures.roomy.sound
    ∙ c.clear.ensures.none
    ∙ ap (λ n. replicate n None) (length_near (table_of inside.pages) inside.near inside.value ∙ ap (λ (l : List (Option ℕ)). length l) c.self.view_is)
