use Rattle.std.proofs.Common.{Some, ap, ◌∙◌, arith}
use Rattle.std.specs.Prelude.{slice_set}
use Rattle.overlay_pages.specs.Over.{set_beside}
use Rattle.overlay_pages.specs.Table.{table_of, slots}
use Rattle.overlay_pages.proofs.Beside.{beside_near}
use Rattle.overlay_pages.proofs.own.Own.write_beside.Goals as goal

pub returns-then-first-count : goal.returns-then-first-count
returns-then-first-count c =
    let inside = c.self.inside in
    ap (λ l. slice_set l inside.near (Some inside.value)) c.write_row.ensures.written
    ∙ beside_near (slots (table_of inside.pages)) c.args.first c.args.numbers.now inside.near (Some inside.value) (λ k lt. c.lies_apart.ensures.0 c.if-lies_apart.true k (omega arith))
    ∙ ap (λ l. set_beside l c.args.first c.args.numbers.now) c.self.view_is
