use Rattle.std.specs.Prelude.{◌≡◌, IfOk}
use Rattle.std.proofs.Common.{ℕ, List, length, replicate, Option, None, ap, sym, ◌∙◌, subst}
use Rattle.store.specs.Flat.{values_of}
use Rattle.overlay_pages.specs.Over.{writes_of, writes_in, changing}
use Rattle.overlay_pages.specs.Table.{table_of}
use Rattle.overlay_pages.proofs.Tables.{length_slots}
use Rattle.overlay_pages.proofs.Near.{set_nowhere}
use Rattle.overlay_pages.proofs.own.Own.finish.Goals as goal

pub returns-clause-none : goal.returns-clause-none
returns-clause-none c =
    let inside = c.self.inside in
    let before = table_of c.write_at.new.pages in
    set_nowhere (table_of c.take.new.pages) inside.value c.take.ensures.roomy.sound
    ∙ c.take.ensures.none
    ∙ ap (λ n. replicate n None) (sym (length_slots before) ∙ ap (λ (l : List (Option ℕ)). length l) (c.write_at.ensures.written ∙ c.self.view_is))

pub returns-clause-changes : goal.returns-clause-changes
returns-clause-changes c =
    subst (λ (l : List (Option ℕ)). IfOk c.take.result (λ changes. (place : ℕ) → writes_of changes place ≡ changing (writes_in l) (values_of c.args.store.now) place))
    (c.write_at.ensures.written ∙ c.self.view_is) c.take.ensures.changes
