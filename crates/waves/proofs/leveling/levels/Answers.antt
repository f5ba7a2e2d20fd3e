use Rattle.std.proofs.Common.{ap}
use Rattle.nest_space.specs.Space.{vectors}
use Rattle.waves.proofs.Known.{waves_found}
use Rattle.waves.proofs.leveling.levels.Goals as goal

pub returns-clause-ok : goal.returns-clause-ok
returns-clause-ok c =
    waves_found (vectors c.args.space.now) c.deref.result.now c.sinks.inside.distances.items c.args.sinks.now.distances c.in_ok-levels.levels.items c.deref-2.result.now c.in_ok-waves.waves
    c.deref.ensures.value (ap (λ s. s.distances) c.sinks.view_is) c.deref-2.ensures.value c.in_ok-levels.ensures.count c.in_ok-levels.ensures.levels c.in_ok-waves.ensures
