use Rattle.std.proofs.Common.{List, length, ap, sym, ◌∙◌}
use Rattle.overlay_pages.specs.declared.changes.Change.{Change}
use Rattle.overlay_pages.proofs.Runs.{length_changes}
use Rattle.overlay_pages.proofs.changes.Changes.len.Goals as goal

pub returns : goal.returns
returns c =
    c.len.ensures.value
    ∙ sym (length_changes c.self.inside.heads.items c.self.inside.values.items c.self.invariant)
    ∙ ap (λ (l : List Change). length l) c.self.view_is
