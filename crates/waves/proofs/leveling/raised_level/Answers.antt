use Rattle.std.proofs.Common.{arith, ap, ◌∙◌, ◌+◌, ◌≡◌, ◌<◌, max, length, get_or}
use Rattle.nest_space.specs.Space.{vectors}
use Rattle.waves.proofs.Sorted.{sorted_vectors, sunk_at}
use Rattle.waves.proofs.Known.{none_inside, not_raised, raised_by, max_most}
use Rattle.waves.proofs.leveling.raised_level.Goals as goal

pub at-requires : goal.at-requires
at-requires c =
    let sink = c.in-Some.ensures in
    sunk_at (vectors c.args.space.now) _ c.in-Some.number c.args.values.now sink.vector c.args.distance.now (sorted_vectors c.args.space.now c.requires.rise) c.requires.ahead c.requires.at sink.before sink.is

pub returns-in-None-clause-above : goal.returns-in-None-clause-above
returns-in-None-clause-above c = λ ds are.
    not_raised (vectors c.args.space.now) ds c.args.values.now c.args.distance.now c.args.above
    (none_inside (vectors c.args.space.now) _ c.args.values.now c.args.distance.now (sorted_vectors c.args.space.now c.requires.rise) c.requires.ahead c.requires.at c.requires.fit c.in-None.ensures)

pub returns-in-Some-clause-above : goal.returns-in-Some-clause-above
returns-in-Some-clause-above c = λ ds are.
    let sink = c.in-Some.ensures in
    let less : c.in-Some.number < length c.args.levels.now =
    sunk_at (vectors c.args.space.now) _ c.in-Some.number c.args.values.now sink.vector c.args.distance.now (sorted_vectors c.args.space.now c.requires.rise) c.requires.ahead c.requires.at sink.before sink.is in
    let most : c.max.result ≡ max c.args.above (get_or c.args.levels.now c.in-Some.number 0 + 1) = c.max.ensures ∙ ap (λ n. max c.args.above (n + 1)) c.at.ensures in
    most ∙ raised_by (vectors c.args.space.now) ds c.args.levels.now c.args.values.now c.args.distance.now c.args.above c.in-Some.number sink are less

pub returns-in-Some-clause-small : goal.returns-in-Some-clause-small
returns-in-Some-clause-small c = λ ds are le.
    let sink = c.in-Some.ensures in
    let less : c.in-Some.number < length c.args.levels.now =
    sunk_at (vectors c.args.space.now) _ c.in-Some.number c.args.values.now sink.vector c.args.distance.now (sorted_vectors c.args.space.now c.requires.rise) c.requires.ahead c.requires.at sink.before sink.is in
    let most : c.max.result ≡ max c.args.above (get_or c.args.levels.now c.in-Some.number 0 + 1) = c.max.ensures ∙ ap (λ n. max c.args.above (n + 1)) c.at.ensures in
    let small = c.requires.levels c.in-Some.number less in
    let all = max_most c.args.above (get_or c.args.levels.now c.in-Some.number 0 + 1) (length c.args.levels.now) le (omega arith) in
    omega (arith, most, all)
