use Rattle.ktree.specs.View.{source_of, cond_of, increment_of}
use Rattle.nest_loop.proofs.Laws.{canonical_well}
use Rattle.nest_loop.proofs.entered.facts_of.Goals as goal

pub greatest_trip_count-requires-clause-well : goal.greatest_trip_count-requires-clause-well
greatest_trip_count-requires-clause-well c =
    let head = c.args.head.now in
    canonical_well c.args.bounds.now head.variable.0 (source_of head.start) (cond_of head.test) (increment_of head.step) c.in_ok-made.made.canonical c.in_ok-made.ensures.ok.form
