use Rattle.std.proofs.Common.{◌≡◌, ℕ, sym, ap, ◌∙◌}
use Rattle.std.proofs.lemmas.Result.{IfOk-weaker}
use Rattle.store.specs.Flat.{values_of}
use Rattle.overlay_pages.specs.Over.{writes_of, writes_in, changing, written_over}
use Rattle.overlay_pages.specs.Seen.{Seen, cells_of}
use Rattle.overlay_pages.proofs.Overlays.{over_same, over_changing}
use Rattle.overlay_pages.proofs.chunk.Chunk.finish.Goals as goal

pub returns-clause-leave : goal.returns-clause-leave
returns-clause-leave c =
    let own = c.self.inside.own in
    let cells = values_of c.self.inside.store.now in
    IfOk-weaker c.finish.result
    (λ changes. (place : ℕ) → writes_of changes place ≡ changing (writes_in own) cells place)
    (λ changes. written_over (writes_of changes) (values_of c.args.self.now.store) ≡ cells_of c.args.self.now)
    (λ changes same.
    sym (ap (λ (s : Seen). written_over (writes_of changes) (values_of s.store)) c.self.view_is)
    ∙ over_same (writes_of changes) (changing (writes_in own) cells) cells same
    ∙ over_changing (writes_in own) cells
    ∙ ap (λ (s : Seen). cells_of s) c.self.view_is)
    c.finish.ensures.changes
