use Rattle.std.proofs.Common.{map}
use Rattle.pairtest_cover.proofs.Covering.{covered_decided}
use Rattle.pairtest_cover.proofs.cover.is_covered.Goals as goal

pub returns : goal.returns
returns c =
    covered_decided c.args.nest.now (map (λ d. d.items) c.args.sinks.now) c.args.x.now c.args.y.now c.are_uniform.result c.one_leads_there.result c.are_uniform.ensures c.one_leads_there.ensures
