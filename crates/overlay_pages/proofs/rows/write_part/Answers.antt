use Rattle.std.proofs.Common.{ap, ◌∙◌, arith}
use Rattle.overlay_pages.specs.Over.{set_beside}
use Rattle.overlay_pages.specs.Table.{table_of, slots}
use Rattle.overlay_pages.proofs.Beside.{row_settled}
use Rattle.overlay_pages.proofs.rows.write_part.Goals as goal

pub returns-clause-written : goal.returns-clause-written
returns-clause-written c =
    let size = c.reach.ensures.size in
    let there = c.requires.there in
    ap slots c.set_row.ensures.set
    ∙ (row_settled (table_of c.reach.new.pages) c.args.first c.args.numbers.now c.reach.ensures.roomy.sound (omega arith) c.requires.few c.reach.ensures.entered).1
    ∙ ap (λ l. set_beside l c.args.first c.args.numbers.now) c.reach.ensures.kept
