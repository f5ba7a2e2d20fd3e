use Rattle.std.proofs.Common.{map, sym, ap, ◌∙◌}
use Rattle.reduce.specs.Partial.{partial_of}
use Rattle.team_log.specs.Logged.{Account}
use Rattle.team_log.specs.Printed.{entered_by}
use Rattle.team_log.specs.Scanned.{told_of_scan, partials_from}
use Rattle.team_log.proofs.Combining.{logged_partials}
use Rattle.team_log.proofs.log.ChunkLog.enter_partials.Goals as goal

pub returns : goal.returns
returns c =
    let own = c.self.inside in
    let table = map partial_of c.args.table.now in
    c.enter_each_partial.ensures
    ∙ (λ i. partials_from (c.as_slice.ensures i) (c.as_slice-2.ensures.value i) table)
    ∙ sym (logged_partials own.ended.items own.changes own.partials.items own.text.items table)
    ∙ ap (λ (a : Account). entered_by told_of_scan a.chunks table) c.self.view_is
