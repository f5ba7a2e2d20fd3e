use Rattle.std.proofs.lemmas.Result.{err_from_is_err_and}
use Rattle.pairtest_counter.proofs.Converted.{place_stops, reach_stops}
use Rattle.pairtest_counter.proofs.convert.forms_between.Goals as goal

pub returns-in_err-stepped : goal.returns-in_err-stepped
returns-in_err-stepped c =
    let p = err_from_is_err_and c.from_residual.result c.from_residual.ensures.1 in
    rw (p.1, p.2) (place_stops c.args.counter.0 c.args.canonical.now c.args.start.now c.args.limit.now c.args.place c.in_err-stepped.field-0.0 c.in_err-stepped.ensures)

pub returns-in_err-reach_of : goal.returns-in_err-reach_of
returns-in_err-reach_of c =
    let p = err_from_is_err_and c.from_residual-in_err-reach_of.result c.from_residual-in_err-reach_of.ensures.1 in
    rw (p.1, p.2) (reach_stops c.args.counter.0 c.args.canonical.now c.args.start.now c.args.limit.now c.args.place c.in_err-reach_of.field-0.0 c.in_err-reach_of.ensures)
