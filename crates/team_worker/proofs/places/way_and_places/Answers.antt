use Rattle.std.proofs.Common.{arith}
use Rattle.team_worker.specs.Places.{count_taken}
use Rattle.team_worker.proofs.Cutting.{few_chunks}
use Rattle.team_worker.proofs.places.way_and_places.Goals as goal

pub way_of-requires-clause-few : goal.way_of-requires-clause-few
way_of-requires-clause-few c =
    let few = few_chunks (count_taken c.args.grounds.now) c.args.grounds.now.chunks c.requires.split.cut in
    let most = c.requires.split.few in
    omega arith
