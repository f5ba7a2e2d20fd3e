use Rattle.std.proofs.Common.{Some, sym, ap, ◌∙◌}
use Rattle.std.specs.Prelude.{slice_set}
use Rattle.overlay_pages.specs.Over.{writes_in}
use Rattle.overlay_pages.specs.Table.{table_of, slots}
use Rattle.overlay_pages.proofs.Tables.{slots_say, length_slots}
use Rattle.overlay_pages.proofs.Near.{read_apart}
use Rattle.overlay_pages.proofs.own.Own.read.Goals as goal

pub returns-then-place-self : goal.returns-then-place-self
returns-then-place-self c =
    let inside = c.self.inside in
    let all = slots (table_of inside.pages) in
    c.near_value.ensures all (length_slots (table_of inside.pages))
    ∙ ap (λ p. writes_in (slice_set all inside.near (Some inside.value)) p) (sym c.if-place-self.true)
    ∙ ap (λ l. writes_in l c.args.place) c.self.view_is

pub returns-else-place-self : goal.returns-else-place-self
returns-else-place-self c =
    let inside = c.self.inside in
    let all = slots (table_of inside.pages) in
    c.slot_at.ensures
    ∙ sym (slots_say (table_of inside.pages) c.self.invariant.sound c.args.place)
    ∙ sym (read_apart all inside.near inside.value c.args.place c.if-place-self.false)
    ∙ ap (λ l. writes_in l c.args.place) c.self.view_is
