use Rattle.std.proofs.Common.{◌≡◌, ℤ, ◌+ℤ◌, to_z, of_z, w64, refl, ap, ◌∙◌, rules}
use Rattle.std.proofs.lemmas.Int.{ints}
use Rattle.nest_loop.specs.Sides.{never}
use Rattle.nest_loop.proofs.Boxes.{sum_read, modest_within, side_rising, side_falling}
use Rattle.nest_loop.proofs.walked.number_range.Goals as goal

pub returns-in_default-clause-side : goal.returns-in_default-clause-side
returns-in_default-clause-side c = never c.requires.other (c.in_default.ensures.empty refl)

pub returns-in-Rising-clause-side : goal.returns-in-Rising-clause-side
returns-in-Rising-clause-side c =
    let l = c.args.canonical.now in
    let start = c.in-Some.start in
    let limit = c.in-Some-ends.limit in
    let shift = c.end_shift-shift.result in
    let low : to_z w64 (of_z w64 start.0) ≡ start.0 = search (rules, ints) in
    let high = sum_read limit.1 shift (modest_within limit.1 c.in-Some-ends.ensures.greatest) c.end_shift-shift.ensures.within in
    side_rising c.args.bounds.now l _ start.0 start.1 limit.0 limit.1 c.requires.other c.in-Rising.is c.in-Some.ensures.exact c.in-Some-ends.ensures.exact low
    (high ∙ ap (λ (n : ℤ). limit.1 +ℤ n) c.end_shift-shift.ensures.value)

pub returns-in-Falling-clause-side : goal.returns-in-Falling-clause-side
returns-in-Falling-clause-side c =
    let l = c.args.canonical.now in
    let start = c.in-Some.start in
    let limit = c.in-Some-ends.limit in
    let shift = c.end_shift-shift.result in
    let high : to_z w64 (of_z w64 start.1) ≡ start.1 = search (rules, ints) in
    let low = sum_read limit.0 shift (modest_within limit.0 c.in-Some-ends.ensures.least) c.end_shift-shift.ensures.within in
    side_falling c.args.bounds.now l _ start.0 start.1 limit.0 limit.1 c.requires.other c.in-Falling.is c.in-Some.ensures.exact c.in-Some-ends.ensures.exact
    (low ∙ ap (λ (n : ℤ). limit.0 +ℤ n) c.end_shift-shift.ensures.value) high
