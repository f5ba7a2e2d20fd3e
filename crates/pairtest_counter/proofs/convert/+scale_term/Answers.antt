use Rattle.std.proofs.Common.{◌≡◌, ◌==◌, false, rules}
use Rattle.pairtest_counter.proofs.Converted.{other_loop}
use Rattle.pairtest_counter.proofs.convert.+scale_term.Goals as goal

pub returns-then-ne : goal.returns-then-ne
returns-then-ne t c =
    let other : (c.in-Some.level.now.canonical.variable.0 == c.args.term.now.variable.0) ≡ false = search rules in
    other_loop c.args.levels.now c.in-Some.outer.now c.in-Some.level.now c.args.term.now c.args.place c.scale_term.result c.in-Some.ensures.cases.0 other c.scale_term.ensures
