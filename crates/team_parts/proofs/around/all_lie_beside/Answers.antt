-- What is left to show of places in front.
use Rattle.std.proofs.Common.{inl, ◌+◌, ◌*◌, ◌-◌, ◌<◌, ◌^◌, arith}
use Rattle.std.proofs.lemmas.Bool.{ltb-true}
use Rattle.team_parts.proofs.Nests.{all_beside}
use Rattle.team_parts.proofs.around.all_lie_beside.Goals as goal

-- src/around.rt
pub returns-then-last-turns : goal.returns-then-last-turns
returns-then-last-turns c h =
    let s = c.args.s in
    let last = s.start + (c.args.count - 1) * s.step in
    let small : last < 2 ^ 62 = omega (arith, c.if-last.false) in
    let short : c.args.step < 2 ^ 38 = omega (arith, c.if-step.false) in
    all_beside c.args.window c.args.turns s.start s.step c.args.count c.args.step small short (inl (ltb-true (last + c.args.turns * c.args.step) (c.args.window.low + c.args.step) h))
