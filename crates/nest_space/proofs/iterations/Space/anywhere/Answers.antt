use Rattle.std.proofs.Common.{[]}
use Rattle.nest_space.specs.Nests.{given}
use Rattle.nest_space.proofs.Anywhere.{runs_anywhere}
use Rattle.nest_space.proofs.Rising.{runs_rise}
use Rattle.nest_space.proofs.iterations.Space.anywhere.Goals as goal

pub returns-clause-runs : goal.returns-clause-runs
returns-clause-runs c values = runs_anywhere c.args.loops.now (given []) values c.space_at.result c.requires.numbers c.space_at.ensures

pub returns-clause-rise : goal.returns-clause-rise
returns-clause-rise c = runs_rise c.args.loops.now (given []) c.space_at.result c.space_at.ensures c.requires.rise
