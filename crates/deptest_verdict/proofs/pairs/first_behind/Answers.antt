use Rattle.std.proofs.Common.{◌≡◌, IsTrue, length, Some, slice_get, arith, rules}
use Rattle.std.proofs.lemmas.Option.{slice_get_read}
use Rattle.std.proofs.lemmas.Result.{err_from_is_err_and}
use Rattle.std.proofs.Common.{refl}
use Rattle.deptest_verdict.specs.Sinks.{distances_of}
use Rattle.deptest_verdict.specs.Pairs.{IsShown}
use Rattle.deptest_verdict.proofs.Showing.{one_more, all_behind, found_behind, large_behind}
use Rattle.deptest_verdict.proofs.pairs.first_behind.Goals as goal

pub returns-in_err-shown-clause-err : goal.returns-in_err-shown-clause-err
returns-in_err-shown-clause-err c =
    let y = c.index-others-j.result in
    let there : slice_get c.args.others.now c.loop-j.j ≡ Some y = search (rules, slice_get_read) in
    let p = err_from_is_err_and c.from_residual.result c.from_residual.ensures.1 in
    rw p.1 (large_behind c.args.nest.now (distances_of c.args.sinks.now) c.args.x.now y c.args.others.now c.loop-j.j there c.loop-j.invariant c.in_err-shown.ensures.pair c.in_err-shown.ensures.large)

pub returns-then-not-shown-clause-ok : goal.returns-then-not-shown-clause-ok
returns-then-not-shown-clause-ok c =
    let y = c.index-others-j.result in
    let there : slice_get c.args.others.now c.loop-j.j ≡ Some y = search (rules, slice_get_read) in
    found_behind c.args.nest.now (distances_of c.args.sinks.now) c.args.x.now y c.args.others.now c.loop-j.j there c.loop-j.invariant (λ (s : IsShown c.args.nest.now (distances_of c.args.sinks.now) c.args.x.now y). let t = c.in_ok-shown.ensures.ok.1 s in let f = c.if-not-shown.true in absurd cc)

pub returns-then-not-shown-clause-there : goal.returns-then-not-shown-clause-there
returns-then-not-shown-clause-there c =
    let y = c.index-others-j.result in
    let there : slice_get c.args.others.now c.loop-j.j ≡ Some y = search (rules, slice_get_read) in
    (y, there, refl)

pub loop-j-preserved : goal.loop-j-preserved
loop-j-preserved c =
    let y = c.index-others-j.result in
    let there : slice_get c.args.others.now c.loop-j.j ≡ Some y = search (rules, slice_get_read) in
    let shown : IsTrue c.in_ok-shown.shown = search rules in
    one_more c.args.nest.now (distances_of c.args.sinks.now) c.args.x.now y c.args.others.now c.loop-j.j there c.loop-j.invariant (c.in_ok-shown.ensures.ok.0 shown)

pub returns-clause-ok : goal.returns-clause-ok
returns-clause-ok c =
    let end : c.loop-j.j ≡ length c.args.others.now = search (rules, arith) in
    all_behind c.args.nest.now (distances_of c.args.sinks.now) c.args.x.now c.args.others.now c.loop-j.j end c.loop-j.invariant
