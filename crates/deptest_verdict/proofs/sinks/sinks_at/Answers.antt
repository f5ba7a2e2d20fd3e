use Rattle.std.proofs.Common.{ℤ, length, List, sym, ap, ◌∙◌, arith, rules, Vec, Global}
use Rattle.std.specs.Prelude.{◌≤◌}
use Rattle.deptest_verdict.specs.Sinks.{distances_of}
use Rattle.deptest_verdict.proofs.Lookup.{tried_next, found_there, none_there}
use Rattle.deptest_verdict.proofs.sinks.sinks_at.Goals as goal

pub returns-then-nest-line : goal.returns-then-nest-line
returns-then-nest-line c =
    ap (λ (ds : List (Vec ℤ Global)). distances_of ds) c.as_slice.ensures.value
    ∙ sym (found_there c.args.line c.loop-nest.nest-index c.args.nests.now c.nest-item.result c.loop-nest-test.true c.nest-item.is c.if-nest-line.true) ∙ sym c.loop-nest.invariant

pub loop-nest-preserved : goal.loop-nest-preserved
loop-nest-preserved c =
    c.loop-nest.invariant ∙ tried_next c.args.line c.loop-nest.nest-index c.args.nests.now c.nest-item.result c.loop-nest-test.true c.nest-item.is c.if-nest-line.false

pub returns : goal.returns
returns c =
    let end : length c.args.nests.now ≤ c.loop-nest.nest-index = search (rules, arith) in
    sym (c.loop-nest.invariant ∙ none_there c.args.line c.loop-nest.nest-index c.args.nests.now end)
