use Rattle.std.proofs.Common.{◌≡◌, ◌↔◌, true, map, take, Any}
use Rattle.pairtest_cover.specs.Along.{LeadsThere}
use Rattle.pairtest_cover.proofs.cover.one_leads_there.Given as goal

-- a sink so far leads there, or none does
abbrev pub invariant-loop-sink : goal.invariant-loop-sink
invariant-loop-sink l = (l.any ≡ true) ↔ Any (LeadsThere l.nest l.x l.y) (take l.sink-index (map (λ d. d.items) l.sinks))
