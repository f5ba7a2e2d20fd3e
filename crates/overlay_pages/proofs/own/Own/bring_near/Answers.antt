use Rattle.std.proofs.Common.{sym, ◌∙◌}
use Rattle.overlay_pages.specs.Table.{table_of, slots}
use Rattle.overlay_pages.proofs.Tables.{slots_say}
use Rattle.overlay_pages.proofs.Near.{set_read, set_nowhere}
use Rattle.overlay_pages.proofs.own.Own.bring_near.Goals as goal

pub returns-in-Some : goal.returns-in-Some
returns-in-Some c =
    let now = table_of c.write_at.new.pages in
    set_read (slots now) c.args.place c.in-Some.value (slots_say now c.write_at.ensures.roomy.sound c.args.place ∙ sym c.slot_at.ensures ∙ c.in-Some.is)
    ∙ c.write_at.ensures.written ∙ c.self.view_is

pub returns-in-None : goal.returns-in-None
returns-in-None c =
    set_nowhere (table_of c.write_at.new.pages) c.self.inside.value c.write_at.ensures.roomy.sound ∙ c.write_at.ensures.written ∙ c.self.view_is
