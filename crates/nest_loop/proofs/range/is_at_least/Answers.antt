use Rattle.std.proofs.Common.{◌≡◌, to_z, of_z, rules}
use mir.Syntax.{w128}
use Rattle.std.proofs.lemmas.Int.{ints, to_z-of_z}
use Rattle.nest_loop.proofs.Boxes.{least_tested}
use Rattle.nest_loop.proofs.range.is_at_least.Goals as goal

pub returns-in-Some : goal.returns-in-Some
returns-in-Some c =
    let r = c.in-Some.range in
    let read : to_z w128 (of_z w128 r.0) ≡ r.0 = search (rules, ints) in
    least_tested c.args.least (to_z w128 (of_z w128 c.args.least)) r.0 (to_z w128 (of_z w128 r.0)) r.1 c.args.form.now c.args.bounds.now (to_z-of_z w128 c.args.least c.ranges.least) read c.in-Some.ensures.exact
