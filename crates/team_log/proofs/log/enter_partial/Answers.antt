use Rattle.std.proofs.Common.{map, ap, ◌∙◌}
use Rattle.std.specs.Prelude.{slice_set}
use Rattle.std.proofs.lemmas.List.{map-set}
use Rattle.reduce.specs.Partial.{partial_of}
use Rattle.team_log.proofs.log.enter_partial.Goals as goal

pub returns-then-number-table : goal.returns-then-number-table
returns-then-number-table c =
    map-set partial_of c.args.table.now c.args.number.0 c.first_partial.result ∙ ap (λ p. slice_set (map partial_of c.args.table.now) c.args.number.0 p) c.first_partial.ensures
