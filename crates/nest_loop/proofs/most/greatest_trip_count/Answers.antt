use Rattle.std.specs.Prelude.{ℤ, pos, ◌≤ℤ◌, ◌≡◌}
use Rattle.std.proofs.Common.{refl, sym, to_z, of_z, subst, rules}
use Rattle.std.proofs.lemmas.Int.{ints}
use mir.Syntax.{w128}
use Rattle.nest_loop.specs.Most.{AreWithin, nowhere}
use Rattle.nest_loop.proofs.Turning.{most_is, range_near}
use Rattle.nest_loop.proofs.most.greatest_trip_count.Goals as goal

pub returns-in-None-clause-most : goal.returns-in-None-clause-most
returns-in-None-clause-most c = nowhere (c.in-None.ensures.empty.0 refl)

pub trip_count_within-requires-clause-near : goal.trip_count_within-requires-clause-near
trip_count_within-requires-clause-near c =
    let r = c.in-Some.range in
    let read : to_z w128 (of_z w128 r.1) ≡ r.1 = search (rules, ints) in
    subst (λ (z : ℤ). z ≤ℤ pos 8589934592) (sym read)
    (range_near c.args.bounds.now c.args.canonical.now c.in_ok-distance.distance r.0 r.1 c.requires.stays c.in_ok-distance.ensures.ok c.in-Some.ensures.exact)

pub returns-clause-most : goal.returns-clause-most
returns-clause-most c =
    let r = c.in-Some.range in
    let l = c.args.canonical.now in
    let n = c.trip_count_within.result in
    let read : to_z w128 (of_z w128 r.1) ≡ r.1 = search (rules, ints) in
    most_is c.args.bounds.now l c.in_ok-distance.distance r.0 r.1 n c.in_ok-distance.ensures.ok c.in-Some.ensures.exact
    (subst (λ (z : ℤ). AreWithin l.stride.by z n) read c.trip_count_within.ensures.turns)
