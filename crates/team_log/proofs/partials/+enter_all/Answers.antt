use Rattle.std.proofs.Common.{◌≡◌, List, ◌∷◌, map, sym, ap, ◌∙◌, rules}
use Rattle.reduce.specs.Partial.{partial_of}
use Rattle.team_log.specs.Logged.{Account, joined}
use Rattle.team_log.specs.Printed.{entered_by}
use Rattle.team_log.specs.Scanned.{told_of_scan}
use Rattle.team_log.proofs.Entering.{entered_both}
use Rattle.team_log.proofs.partials.+enter_all.Goals as goal

pub returns : goal.returns
returns t c =
    let log = c.in-Some.log.now in
    let rest = c.in-Some.rest.now in
    let table = map partial_of c.args.table.now in
    let whole : c.args.logs.now ≡ log ∷ rest = search rules in
    c.enter_all.ensures
    ∙ ap (entered_by told_of_scan (joined rest).chunks) c.enter_partials.ensures
    ∙ sym (entered_both told_of_scan log.chunks (joined rest).chunks table)
    ∙ ap (λ (ls : List Account). entered_by told_of_scan (joined ls).chunks table) (sym whole)
