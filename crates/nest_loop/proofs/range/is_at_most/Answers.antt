use Rattle.std.proofs.Common.{◌≡◌, to_z, of_z, rules}
use mir.Syntax.{w128}
use Rattle.std.proofs.lemmas.Int.{ints, to_z-of_z}
use Rattle.nest_loop.proofs.Boxes.{greatest_tested}
use Rattle.nest_loop.proofs.range.is_at_most.Goals as goal

pub returns-in-Some : goal.returns-in-Some
returns-in-Some c =
    let r = c.in-Some.range in
    let read : to_z w128 (of_z w128 r.1) ≡ r.1 = search (rules, ints) in
    greatest_tested c.args.greatest (to_z w128 (of_z w128 c.args.greatest)) r.0 r.1 (to_z w128 (of_z w128 r.1)) c.args.form.now c.args.bounds.now (to_z-of_z w128 c.args.greatest c.ranges.greatest) read c.in-Some.ensures.exact
