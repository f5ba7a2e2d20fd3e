use Rattle.std.proofs.Common.{Some, ap, sym, ◌∙◌, arith}
use Rattle.std.specs.Prelude.{slice_set}
use Rattle.std.proofs.lemmas.List.{set_past}
use Rattle.overlay_pages.specs.Table.{table_of, slots}
use Rattle.overlay_pages.proofs.Tables.{slots_setting, length_slots}
use Rattle.overlay_pages.proofs.pages.write_at.Goals as goal

pub returns-then-place-pages-clause-written : goal.returns-then-place-pages-clause-written
returns-then-place-pages-clause-written c =
    let size = c.reach.ensures.size in
    let less = c.if-place-pages.true in
    ap slots c.set.ensures.set
    ∙ slots_setting (table_of c.reach.new.pages) c.reach.ensures.roomy.sound c.args.place c.args.n (omega arith) c.reach.ensures.entered
    ∙ ap (λ l. slice_set l c.args.place (Some c.args.n)) c.reach.ensures.kept

pub returns-else-place-pages-clause-written : goal.returns-else-place-pages-clause-written
returns-else-place-pages-clause-written c =
    let past = c.if-place-pages.false in
    let long = length_slots (table_of c.args.pages.now) in
    sym (set_past (slots (table_of c.args.pages.now)) c.args.place (Some c.args.n) (omega arith))
